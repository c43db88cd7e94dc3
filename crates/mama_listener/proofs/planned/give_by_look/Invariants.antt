use Rattle.std.proofs.Common.{◌≡◌, take}
use Rattle.mama_event.specs.Plan.{planned}
use Rattle.mama_listener.proofs.planned.give_by_look.Given as goal

abbrev pub invariant-loop-row : goal.invariant-loop-row
invariant-loop-row l = l.orders ≡ planned (take l.row-index l.rows) l.call
