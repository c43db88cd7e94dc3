use Rattle.std.specs.List.{AllByRecursion}
use Rattle.std.proofs.Common.{List, ap, sym, subst, ◌∙◌}
use Rattle.mama_event.specs.declared.shape.Shape.{Shape}
use Rattle.mama_script.specs.declared.client.ClientLine.{ClientLine}
use Rattle.mama_rules_rounds.specs.Sections.{by_kind, objects_of}
use Rattle.mama_plans.specs.Plans.{AreFew, AreApart}
use Rattle.mama_plans.specs.Room.{MakesFew}
use Rattle.mama_plans.proofs.FewLemmas.{objects_few}
use Rattle.mama_plans.proofs.ApartLemmas.{objects_apart}
use Rattle.mama_plans.proofs.RoomLemmas.{script_makes_few}
use Rattle.mama_plans.proofs.planning.plans_of.Goals as goal

pub all_objects-requires-clause-few : goal.all_objects-requires-clause-few
all_objects-requires-clause-few c = subst (AllByRecursion MakesFew) (sym c.clients.ensures) (script_makes_few c.args.script.now c.shape.ensures.within)

pub new-requires-clause-few : goal.new-requires-clause-few
new-requires-clause-few c =
    subst AreFew
    (sym (c.in_ok-by_kind.ensures
    ∙ ap by_kind (c.in_ok-objects.ensures
    ∙ ap (λ (s : Shape). objects_of s.bounds.queues 0 c.clients.result.now) c.shape.ensures.value
    ∙ ap (λ (cs : List (List ClientLine)). objects_of c.args.script.now.shape.bounds.queues 0 cs) c.clients.ensures)))
    (objects_few c.args.script.now c.shape.ensures.within)

pub new-requires-clause-apart : goal.new-requires-clause-apart
new-requires-clause-apart c =
    subst AreApart (sym (c.in_ok-by_kind.ensures ∙ ap by_kind c.in_ok-objects.ensures)) (objects_apart c.shape.result.now.bounds.queues c.clients.result.now)
