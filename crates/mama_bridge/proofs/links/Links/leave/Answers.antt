use Rattle.std.proofs.Common.{ap, ◌∙◌, sym, subst, map, set}
use Rattle.std.proofs.lemmas.Result.{on_ok_weaker}
use Rattle.std.specs.declared.option.Option.{Option}
use Rattle.mama_bridge.specs.Links.{SubLeaves, sub_seen, end_outs}
use Rattle.mama_bridge.specs.Linked.{Linked, AreIndexed, IsAbsent}
use Rattle.mama_bridge.specs.Placed.{present}
use Rattle.mama_bridge.specs.declared.subs.SubLink.{SubLink}
use Rattle.mama_bridge.proofs.LinkLemmas.{are_indexed, gone_at, indexed_less, noted_anew, read_at}
use Rattle.mama_bridge.proofs.RowLemmas.{entry_left, none_left}
use Rattle.mama_bridge.proofs.links.Links.leave.Goals as goal

pub index_of-requires : goal.index_of-requires
index_of-requires g c = are_indexed c.self.inside.indexes c.self.inside.entries.items c.self.invariant.indexed

pub forget-requires-clause-absent : goal.forget-requires-clause-absent
forget-requires-clause-absent g c =
    subst (λ (e : Option SubLink). IsAbsent c.args.sub (set c.self.inside.entries.items c.in-Some.i e)) (sym c.in_ok-leave_entry-in-Some.ensures.gone)
    (gone_at c.args.sub c.self.inside.entries.items c.in-Some.i c.in-Some.ensures)

pub forget-requires-clause-indexed : goal.forget-requires-clause-indexed
forget-requires-clause-indexed g c =
    subst (λ (e : Option SubLink). AreIndexed c.self.inside.indexes (set c.self.inside.entries.items c.in-Some.i e)) (sym c.in_ok-leave_entry-in-Some.ensures.gone)
    (indexed_less c.self.inside.indexes c.self.inside.entries.items c.in-Some.i (are_indexed c.self.inside.indexes c.self.inside.entries.items c.self.invariant.indexed))

pub invariant_of-self-in-Some : goal.invariant_of-self-in-Some
invariant_of-self-in-Some g c = noted_anew c.forget.new.indexes c.forget.new.entries.items c.forget.ensures.indexed

pub returns-in_ok-leave_entry-in-Some-clause-ok : goal.returns-in_ok-leave_entry-in-Some-clause-ok
returns-in_ok-leave_entry-in-Some-clause-ok g c rows h alone =
    let entries = c.self.inside.entries.items in
    let read = read_at entries c.in-Some.i c.index_mut.result.now c.in-Some.ensures.within c.index_mut.ensures.value in
    let left = entry_left c.args.sub entries c.in-Some.i c.index_mut.result.now c.leave_entry.new.entry c.args.out.now.items c.leave_entry.new.out.items c.in-Some.ensures read c.in_ok-leave_entry-in-Some.ensures.gone c.in_ok-leave_entry-in-Some.ensures.ends
    rows (ap (λ (p : Linked). map sub_seen p.links) c.self.view_is ∙ h) in
    (ap (map sub_seen) c.forget.ensures.links ∙ left.0, left.1)

pub returns-in-None-clause-ok : goal.returns-in-None-clause-ok
returns-in-None-clause-ok g c =
    on_ok_weaker c.release.result
    (λ freed. subst (λ (p : Linked). SubLeaves {L = g.row.L.Denot} c.args.sub p.links p.links c.args.out.now.items c.args.out.now.items) c.self.view_is
    (λ rows h alone. none_left end_outs c.args.sub (present c.self.inside.entries.items) c.args.out.now.items c.in-None.ensures rows h))
    c.release.ensures.ok
