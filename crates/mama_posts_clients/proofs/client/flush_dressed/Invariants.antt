use Rattle.std.proofs.Common.{◌≡◌, length}
use Rattle.mama_seats.specs.Waiting.{waits}
use Rattle.mama_posts_clients.specs.Outlets.{after_puts}
use Rattle.mama_posts_clients.proofs.client.flush_dressed.Given as goal

abbrev pub invariant-loop-event : goal.invariant-loop-event
invariant-loop-event g l = after_puts l.ports (waits l.left) ≡ after_puts l.fn.ports (waits l.fn.left)

abbrev pub decreases-loop-event : goal.decreases-loop-event
decreases-loop-event g l = length (waits l.left)
