use Rattle.mama_plans.specs.Plans.{planned_object}
use Rattle.mama_gather.proofs.Placing.{place_there}
use Rattle.mama_gather.proofs.places.is_on.Goals as goal

pub returns-then-place-objects : goal.returns-then-place-objects
returns-then-place-objects c = λ is. record {
  planned = planned_object c.index-objects-place.result;
  there = place_there planned_object c.objects-objects.result.now c.args.plans.now c.args.place c.index-objects-place.result c.objects-objects.ensures c.if-place-objects.true c.index-objects-place.is;
  object_is = c.is_planned.ensures.object is;
  queue_is = c.is_planned.ensures.queue is;
}
