use Rattle.std.specs.Prelude.{is_some, Option, Some}
use Rattle.std.specs.Map.{lookup}
use Rattle.std.proofs.Common.{ℕ, Bool, cond, ap, sym, ◌∙◌}
use Rattle.mama_event.specs.contracts.ids.ObjectIdPartialEq.TheImpl.{eq-value}
use Rattle.mama_event.specs.Object.{same_object}
use Rattle.mama_plans.proofs.IdLemmas.{same_ids, lookup_same}
use Rattle.mama_plans.proofs.PlanLemmas.{placed_new, placed_kept}
use Rattle.mama_plans.proofs.plans.add_place.Goals as goal

pub returns-then-contains_key : goal.returns-then-contains_key
returns-then-contains_key c = λ ids counted placed.
    let o = c.args.object in
    let m = c.args.places.now in
    placed_kept m ids o placed
    (sym (ap is_some (lookup_same (eq-value.it o) (same_object o) m.entries (same_ids o))) ∙ sym c.contains_key.ensures ∙ c.if-contains_key.true)

pub returns : goal.returns
returns c = λ ids counted placed.
    let o = c.args.object in
    let m = c.args.places.now in
    let n = c.insert.new.self in
    placed_new m n ids o c.args.place counted placed
    (sym (ap is_some (lookup_same (eq-value.it o) (same_object o) m.entries (same_ids o))) ∙ sym c.contains_key.ensures ∙ c.if-contains_key.false)
    (λ x.
    sym (lookup_same (eq-value.it x) (same_object x) n.entries (same_ids x))
    ∙ c.in_ok-insert.ensures.updates.0 x
    ∙ ap (λ (b : Bool). cond b (Some c.args.place) (lookup (eq-value.it x) m.entries)) (same_ids o x)
    ∙ ap (λ (r : Option ℕ). cond (same_object o x) (Some c.args.place) r) (lookup_same (eq-value.it x) (same_object x) m.entries (same_ids x)))
