use Rattle.std.proofs.Common.{take}
use Rattle.mama_plans.specs.Plans.{planned_objects}
use Rattle.mama_check_queue.proofs.OrderLemmas.{few_at, found_none, found_more, found_all}
use Rattle.mama_check_queue.proofs.orders.all_by_call.Goals as goal

pub loop-planned-init : goal.loop-planned-init
loop-planned-init c = found_none c.new-by_object.result c.args.objects.now c.new-by_object.ensures.empty

pub add_plan-requires : goal.add_plan-requires
add_plan-requires c = few_at c.args.objects.now c.loop-planned.planned-index c.planned-item.result c.loop-planned-test.true c.planned-item.is c.requires

pub loop-planned-preserved : goal.loop-planned-preserved
loop-planned-preserved c =
    found_more c.add_plan.new.by_object c.args.objects.now c.loop-planned.planned-index c.planned-item.result c.loop-planned-test.true c.planned-item.is
    (c.in_ok-add_plan.ensures (planned_objects (take c.loop-planned.planned-index c.args.objects.now)) c.loop-planned.invariant)

pub returns : goal.returns
returns c = found_all c.loop-planned.by_object c.args.objects.now c.loop-planned.planned-index c.loop-planned.invariant c.loop-planned-test.false
