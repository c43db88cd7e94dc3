use Rattle.std.specs.List.{All}
use Rattle.std.proofs.Common.{sym, ap, subst, ◌∙◌}
use Rattle.std.proofs.lemmas.List.Elements.{All-from_recursion, recursion_from_All}
use Rattle.mama_group.specs.Listener.{told}
use Rattle.mama_plans.specs.Numbered.{numbered, lists_put}
use Rattle.mama_grouped.specs.Closing.{lists_of, IsBy, AreBy}
use Rattle.mama_grouped.specs.Seat.{HasHeard}
use Rattle.mama_grouped.proofs.GatheredSeats.{parts_lists, parts_by}
use Rattle.mama_grouped.proofs.heard.Heard.add.Goals as goal

pub returns-in-Some-clause-lists : goal.returns-in-Some-clause-lists
returns-in-Some-clause-lists g c =
    let view = told g.H.GroupListener.tagged g.H.GroupListener.calls g.H.GroupListener.heard in
    c.put_parts.ensures.lists
    ∙ ap (λ xs. lists_put xs (numbered c.args.self.now.lists.items)) (parts_lists view c.into_parts.result.items c.in-Some.hearing.groups c.into_parts.ensures ∙ ap lists_of (sym c.in-Some.is))

pub returns-in-Some-clause-listeners : goal.returns-in-Some-clause-listeners
returns-in-Some-clause-listeners g c = λ by are were.
    let view = told g.H.GroupListener.tagged g.H.GroupListener.calls g.H.GroupListener.heard in
    let all : All (IsBy by) c.in-Some.hearing.groups = subst (AreBy by) c.in-Some.is are in
    c.put_parts.ensures.listeners by
    (All-from_recursion (λ p. HasHeard p.0 (by p.0) (view p.2)) c.into_parts.result.items
    (parts_by view by c.into_parts.result.items c.in-Some.hearing.groups c.into_parts.ensures (recursion_from_All (IsBy by) c.in-Some.hearing.groups all)))
    were

pub returns-in-None-clause-lists : goal.returns-in-None-clause-lists
returns-in-None-clause-lists g c = ap (λ h. lists_put (lists_of h) (numbered c.args.self.now.lists.items)) (sym c.in-None.is)

pub returns-in-None-clause-listeners : goal.returns-in-None-clause-listeners
returns-in-None-clause-listeners g c = λ by are were. were
