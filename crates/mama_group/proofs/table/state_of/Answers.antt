use Rattle.std.proofs.Common.{refl, sym, ap, subst, ◌∙◌, Some}
use Rattle.std.proofs.lemmas.Bool.{eq-eqb, ne_eqb}
use Rattle.mama_event.specs.declared.group.GroupState.{GroupState}
use Rattle.mama_group.specs.Listener.{told}
use Rattle.mama_group.specs.Kept.{IsCounted, members_by}
use Rattle.mama_group.proofs.Changing.{state_counted}
use Rattle.mama_group.proofs.Placing.{state_found, state_next, state_none}
use Rattle.mama_group.proofs.table.state_of.Goals as goal

pub loop-group-init : goal.loop-group-init
loop-group-init g c = refl

pub returns-then-group-number : goal.returns-then-group-number
returns-then-group-number g c =
    let x = c.group-item.result in
    let counted : IsCounted x = subst IsCounted (sym c.group-item.is) (c.requires c.loop-group.group-index x c.loop-group-test.true) in
    ap (λ (s : GroupState). Some s) c.state.ensures
    ∙ state_found (told g.H.GroupListener.tagged g.H.GroupListener.calls g.H.GroupListener.heard) c.args.number c.args.groups.now c.loop-group.group-index x c.loop-group-test.true c.group-item.is _
    (eq-eqb x.number c.args.number c.if-group-number.true) (state_counted x.counts (members_by x.members x.notes.items) counted) c.loop-group.invariant

pub loop-group-preserved : goal.loop-group-preserved
loop-group-preserved g c =
    let x = c.group-item.result in
    state_next (told g.H.GroupListener.tagged g.H.GroupListener.calls g.H.GroupListener.heard) c.args.number c.args.groups.now c.loop-group.group-index x c.loop-group-test.true c.group-item.is _
    (ne_eqb x.number c.args.number c.if-group-number.false) c.loop-group.invariant

pub returns : goal.returns
returns g c = state_none (told g.H.GroupListener.tagged g.H.GroupListener.calls g.H.GroupListener.heard) c.args.number c.args.groups.now c.loop-group.group-index _ c.loop-group-test.false c.loop-group.invariant
