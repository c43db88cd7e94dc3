use Rattle.std.proofs.Common.{◌≡◌, ℕ, zero, suc, ◌<◌, ◌≤◌, List, [], ◌∷◌, length, get_or, sym, subst, arith}
use Rattle.mama_event.specs.declared.order.PlanRow.{PlanRow}
use Rattle.mama_event.specs.Plan.{planned}
use Rattle.mama_plans.specs.declared.plans.PlannedObject.{PlannedObject}
use Rattle.mama_plans.specs.Plans.{planned_objects, AreFew, IsFew}
use Rattle.mama_crew.proofs.listeners.make_listeners.Goals as goal

few_at : (objects : List PlannedObject) (i : ℕ) (p : PlannedObject) → i < length objects → p ≡ get_or objects i p → AreFew (planned_objects objects) → IsFew p.plan.items
few_at [] i p within is few = absurd (omega arith)
few_at (q ∷ qs) zero p within is few = subst (λ (o : PlannedObject). IsFew o.plan.items) (sym is) few.0
few_at (q ∷ qs) (suc i) p within is few = few_at qs i p (omega arith) is few.1

pub carry-requires : goal.carry-requires
carry-requires g c = record {
  most = λ call.
      subst (λ (rows : List PlanRow). length (planned rows call) ≤ 8) (sym c.as_slice.ensures.value)
      (few_at c.objects-planned-items.result.now c.loop-planned.planned-index c.planned-item.result (omega arith) c.planned-item.is (subst AreFew (sym c.objects-planned-items.ensures) c.are_few.ensures) call);
}
