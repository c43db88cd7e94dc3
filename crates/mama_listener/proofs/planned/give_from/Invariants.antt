use Rattle.std.proofs.Common.{◌≡◌, ◌+◌, ◌-◌, ◌≤◌, length, take}
use Rattle.mama_event.specs.Plan.{planned}
use Rattle.mama_listener.specs.Passed.{IsPassed}
use Rattle.mama_listener.proofs.planned.give_from.Given as goal

abbrev pub invariant-loop-i : goal.invariant-loop-i
invariant-loop-i l = record { within : l.i ≤ length l.rows; given : l.orders ≡ planned (take l.i l.rows) l.call; passed : IsPassed l.rows l.i (l.call + 1) }

abbrev pub decreases-loop-i : goal.decreases-loop-i
decreases-loop-i l = length l.rows - l.i
