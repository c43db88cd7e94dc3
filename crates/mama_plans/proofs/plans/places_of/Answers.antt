use Rattle.std.proofs.Common.{sym, subst, arith, List, take}
use Rattle.std.proofs.lemmas.List.{take_all}
use Rattle.mama_plans.specs.declared.plans.PlannedObject.{PlannedObject}
use Rattle.mama_plans.specs.Places.{objects_in, ArePlaced}
use Rattle.mama_plans.proofs.PlanLemmas.{placed_none, objects_more, ids_taken}
use Rattle.mama_plans.proofs.plans.places_of.Goals as goal

pub loop-place-init : goal.loop-place-init
loop-place-init c = placed_none c.new-places.result c.args.objects.now c.new-places.ensures.empty

pub loop-place-preserved : goal.loop-place-preserved
loop-place-preserved c =
    let ps : List PlannedObject = c.args.objects.now in
    subst (ArePlaced c.add_place.new.places) (sym (objects_more ps c.loop-place.place c.index-objects-place.result (omega arith) c.index-objects-place.is))
    (c.in_ok-add_place.ensures (objects_in (take c.loop-place.place ps)) (sym (ids_taken ps c.loop-place.place (omega arith))) c.loop-place.invariant)

pub returns : goal.returns
returns c = subst (λ (ps : List PlannedObject). ArePlaced c.loop-place.places (objects_in ps)) (take_all c.loop-place.place c.args.objects.now (omega arith)) c.loop-place.invariant
