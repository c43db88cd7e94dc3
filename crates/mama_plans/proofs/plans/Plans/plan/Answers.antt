use Rattle.std.specs.Option.{option_copied}
use Rattle.std.proofs.Common.{◌<◌, List, length, arith, ap, sym, ◌∙◌, subst}
use Rattle.mama_event.specs.contracts.ids.ObjectIdPartialEq.TheImpl.{eq-value}
use Rattle.mama_event.specs.Object.{same_object}
use Rattle.mama_journal.specs.Journal.{first_said}
use Rattle.mama_rules_rounds.specs.Client.{Planned}
use Rattle.mama_rules_rounds.specs.Setting.{plan_in, rows_of}
use Rattle.mama_plans.specs.declared.plans.PlannedObject.{PlannedObject}
use Rattle.mama_plans.specs.Places.{objects_in, IsPlaceOf}
use Rattle.mama_plans.proofs.IdLemmas.{same_ids, lookup_same}
use Rattle.mama_plans.proofs.PlanLemmas.{plan_at, no_plan, within_ids}
use Rattle.mama_plans.proofs.plans.Plans.plan.Goals as goal

pub returns-in-None : goal.returns-in-None
returns-in-None c =
    let o = c.args.object.now in
    let places = c.self.inside.places in
    let ps : List PlannedObject = c.self.inside.objects.items in
    no_plan o ps
    (subst (IsPlaceOf o (objects_in ps))
    (sym (lookup_same (eq-value.it o) (same_object o) places.entries (same_ids o)) ∙ sym (c.get.ensures.value) ∙ ap option_copied c.in-None.is)
    (c.self.invariant.placed.each o))
    ∙ ap (λ (qs : List Planned). rows_of (first_said (plan_in o) qs)) c.self.view_is

pub index-requires : goal.index-requires
index-requires c =
    let o = c.args.object.now in
    let places = c.self.inside.places in
    let ps : List PlannedObject = c.self.inside.objects.items in
    let within : c.in-Some.place.now < length ps = within_ids c.in-Some.place.now ps
    (subst (IsPlaceOf o (objects_in ps))
    (sym (lookup_same (eq-value.it o) (same_object o) places.entries (same_ids o)) ∙ sym (c.get.ensures.value) ∙ ap option_copied c.in-Some.is)
    (c.self.invariant.placed.each o)).0 in
    omega (arith, within, c.self.inside.objects.ok.0)

pub returns-in-Some : goal.returns-in-Some
returns-in-Some c =
    let o = c.args.object.now in
    let places = c.self.inside.places in
    let ps : List PlannedObject = c.self.inside.objects.items in
    c.as_slice.ensures.value ∙ ap (λ (p : PlannedObject). p.plan.items) c.index.ensures
    ∙ plan_at o c.in-Some.place.now ps c.index.result.now
    (subst (IsPlaceOf o (objects_in ps))
    (sym (lookup_same (eq-value.it o) (same_object o) places.entries (same_ids o)) ∙ sym (c.get.ensures.value) ∙ ap option_copied c.in-Some.is)
    (c.self.invariant.placed.each o))
    ∙ ap (λ (qs : List Planned). rows_of (first_said (plan_in o) qs)) c.self.view_is
