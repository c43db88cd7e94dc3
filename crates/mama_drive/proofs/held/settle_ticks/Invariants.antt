use Rattle.std.proofs.Common.{◌≡◌, map, length}
use Rattle.mama_timer.specs.Out.{out_note}
use Rattle.mama_plans.specs.Put.{own_tag}
use Rattle.mama_seats.specs.Waiting.{waits}
use Rattle.mama_drive.specs.Held.{lay_tick, lay_all}
use Rattle.mama_drive.proofs.held.settle_ticks.Given as goal

abbrev pub invariant-loop-tick : goal.invariant-loop-tick
invariant-loop-tick l =
    lay_all lay_tick (map (out_note own_tag) (waits l.ticks)) l.system
    ≡ lay_all lay_tick (map (out_note own_tag) (waits l.fn.ticks)) l.fn.system

abbrev pub decreases-loop-tick : goal.decreases-loop-tick
decreases-loop-tick l = length (waits l.ticks)
