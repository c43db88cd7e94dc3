use Rattle.std.proofs.Common.{◌≡◌, map, length}
use Rattle.mama_bridge.specs.Outs.{put_note}
use Rattle.mama_plans.specs.Put.{own_tag}
use Rattle.mama_seats.specs.Waiting.{waits}
use Rattle.mama_drive.specs.Held.{lay_put, lay_all}
use Rattle.mama_drive.proofs.held.settle_puts.Given as goal

abbrev pub invariant-loop-event : goal.invariant-loop-event
invariant-loop-event l =
    lay_all lay_put (map (put_note own_tag) (waits l.puts)) l.system
    ≡ lay_all lay_put (map (put_note own_tag) (waits l.fn.puts)) l.fn.system

abbrev pub decreases-loop-event : goal.decreases-loop-event
decreases-loop-event l = length (waits l.puts)
