use Rattle.std.specs.Prelude.{is_some, Option, Some}
use Rattle.std.specs.Map.{lookup}
use Rattle.std.proofs.Common.{Bool, cond, List, ap, sym, ◌∙◌}
use Rattle.mama_event.specs.contracts.ids.ObjectIdPartialEq.TheImpl.{eq-value}
use Rattle.mama_event.specs.declared.order.PlanRow.{PlanRow}
use Rattle.mama_event.specs.Object.{same_object}
use Rattle.mama_event.specs.Plan.{planned}
use Rattle.mama_dispatch.proofs.Ids.{same_ids}
use Rattle.mama_plans.specs.Plans.{planned_object}
use Rattle.mama_check_queue.proofs.OrderLemmas.{lookup_same, found_new, found_kept}
use Rattle.mama_check_queue.proofs.orders.add_plan.Goals as goal

pub returns-then-contains_key : goal.returns-then-contains_key
returns-then-contains_key c = λ before found.
    let o = c.args.planned.now.object in
    let m = c.args.by_object.now in
    found_kept m before (planned_object c.args.planned.now) found
    (sym (ap is_some (lookup_same (eq-value.it o) (same_object o) m.entries (same_ids o))) ∙ sym c.contains_key.ensures ∙ c.if-contains_key.true)

pub returns : goal.returns
returns c = λ before found.
    let o = c.args.planned.now.object in
    let m = c.args.by_object.now in
    let n = c.insert.new.self in
    let new = c.in_ok-all_for.field-0 in
    found_new m n before (planned_object c.args.planned.now) new found
    (sym (ap is_some (lookup_same (eq-value.it o) (same_object o) m.entries (same_ids o))) ∙ sym c.contains_key.ensures ∙ c.if-contains_key.false)
    (λ call. c.in_ok-all_for.ensures call ∙ ap (λ (rows : List PlanRow). planned rows call) c.deref.ensures.value)
    (λ x.
    sym (lookup_same (eq-value.it x) (same_object x) n.entries (same_ids x))
    ∙ c.in_ok-insert.ensures.updates.0 x
    ∙ ap (λ (b : Bool). cond b (Some new) (lookup (eq-value.it x) m.entries)) (same_ids o x)
    ∙ ap (λ (r : Option _). cond (same_object o x) (Some new) r) (lookup_same (eq-value.it x) (same_object x) m.entries (same_ids x)))
