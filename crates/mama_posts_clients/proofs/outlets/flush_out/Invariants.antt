use Rattle.std.proofs.Common.{◌≡◌, map, length}
use Rattle.mama_dispatch.specs.Turns.{put_note}
use Rattle.mama_seats.specs.Waiting.{waits}
use Rattle.mama_posts_clients.specs.Outlets.{after_puts}
use Rattle.mama_posts_clients.proofs.outlets.flush_out.Given as goal

abbrev pub invariant-loop-event : goal.invariant-loop-event
invariant-loop-event g l =
    after_puts l.ports (map (put_note (λ c. g.L.Tagged.tagged c.listener)) (waits l.left)) ≡ after_puts l.fn.ports (map (put_note (λ c. g.L.Tagged.tagged c.listener)) (waits l.fn.left))

abbrev pub decreases-loop-event : goal.decreases-loop-event
decreases-loop-event g l = length (waits l.left)
