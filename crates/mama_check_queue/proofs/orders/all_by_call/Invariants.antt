use Rattle.std.proofs.Common.{take}
use Rattle.mama_plans.specs.Plans.{planned_objects}
use Rattle.mama_check_queue.specs.Orders.{AreFound}
use Rattle.mama_check_queue.proofs.orders.all_by_call.Given as goal

-- the plans of so many objects are found
abbrev pub invariant-loop-planned : goal.invariant-loop-planned
invariant-loop-planned l = AreFound l.by_object (planned_objects (take l.planned-index l.objects))
