use Rattle.std.proofs.Common.{map, sym, subst, ◌∙◌}
use Rattle.std.proofs.lemmas.List.{length-map}
use Rattle.mama_group.specs.Listener.{told}
use Rattle.mama_crew.specs.Seat.{actor_of}
use Rattle.mama_grouped.specs.Opening.{AreNew}
use Rattle.mama_grouped.specs.Seat.{IsHearing}
use Rattle.mama_grouped.proofs.Opening.{may_stand, same_length, new_hears}
use Rattle.mama_grouped.proofs.crew.hearing_of.Goals as goal

pub new-requires-clause-listeners : goal.new-requires-clause-listeners
new-requires-clause-listeners g c =
    let view = told g.H.GroupListener.tagged g.H.GroupListener.calls g.H.GroupListener.heard in
    same_length c.args.rows.items (map view c.in_ok-listeners.listeners.items) (subst (λ rows. AreNew rows (map view c.in_ok-listeners.listeners.items)) c.as_slice.ensures.value c.in_ok-listeners.ensures)
    ∙ length-map c.in_ok-listeners.listeners.items view

pub new-requires-clause-apart : goal.new-requires-clause-apart
new-requires-clause-apart g c = (may_stand c.args.script.now (actor_of c.args._seat.now) c.args.rows.items c.shape.ensures.within c.requires.rows).apart

pub new-requires-clause-members : goal.new-requires-clause-members
new-requires-clause-members g c = (may_stand c.args.script.now (actor_of c.args._seat.now) c.args.rows.items c.shape.ensures.within c.requires.rows).members

pub new-requires-clause-distinct : goal.new-requires-clause-distinct
new-requires-clause-distinct g c = (may_stand c.args.script.now (actor_of c.args._seat.now) c.args.rows.items c.shape.ensures.within c.requires.rows).distinct

pub returns-clause-hears : goal.returns-clause-hears
returns-clause-hears g c =
    let view = told g.H.GroupListener.tagged g.H.GroupListener.calls g.H.GroupListener.heard in
    subst (λ gs. IsHearing c.args.script.now c.args._hall.now c.args._seat.now gs 0) (sym c.in_ok-groups.ensures)
    (new_hears c.args.script.now c.args._hall.now c.args._seat.now c.args.rows.items (map view c.in_ok-listeners.listeners.items) c.requires.new c.requires.rows
    (subst (λ rows. AreNew rows (map view c.in_ok-listeners.listeners.items)) c.as_slice.ensures.value c.in_ok-listeners.ensures))
