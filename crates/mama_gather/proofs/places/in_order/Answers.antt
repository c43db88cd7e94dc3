use Rattle.std.proofs.Common.{◌≡◌, ◌++◌, ◌∷◌, [], ap, sym, ◌∙◌, refl, arith, map, Some}
use Rattle.mama_plans.specs.declared.plans.PlannedObject.{PlannedObject}
use Rattle.mama_plans.specs.Plans.{planned_object}
use Rattle.mama_gather.proofs.Placing.{begun_first, begun_more, begun_all, values_more}
use Rattle.mama_gather.proofs.places.in_order.Goals as goal

pub loop-value-init : goal.loop-value-init
loop-value-init g c = record {
  objects = begun_first (λ p. p.object) c.objects-objects.result.now c.in_ok-values.values.items c.in_ok-values.ensures.items;
  values = ap (map (λ v. Some v.1)) c.in_ok-values.ensures.items;
}

pub loop-value-preserved : goal.loop-value-preserved
loop-value-preserved g c =
    let i = c.loop-value.invariant in
    let planned = c.index-objects-place.result in
    let pushed : c.push.new.self.items ≡ c.loop-value.values.items ++ (planned.object, c.in-Some-value.value) ∷ [] =
    c.in_ok-push.ensures.items ∙ ap (λ (p : PlannedObject). c.loop-value.values.items ++ (p.object, c.in-Some-value.value) ∷ []) (sym c.index-objects-place.is) in
    record {
      objects = begun_more (λ p. p.object) c.objects-objects.result.now c.loop-value.values.items c.push.new.self.items planned c.in-Some-value.value c.len-place.result pushed i.objects (omega arith) (omega arith) c.index-objects-place.is;
      values = values_more c.loop-value.values.items c.push.new.self.items planned.object c.in-Some-value.value c.loop-value.yielded c.in-Some.value pushed i.values c.in-Some-value.is;
    }

pub returns-clause-objects : goal.returns-clause-objects
returns-clause-objects g c =
    begun_all (λ p. p.object) planned_object (λ p. p.object) c.objects-objects.result.now c.args.plans.now c.loop-value.values.items (λ p. refl) c.objects-objects.ensures c.loop-value.invariant.objects (omega arith)
