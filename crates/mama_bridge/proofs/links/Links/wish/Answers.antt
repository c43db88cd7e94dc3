use Rattle.std.proofs.Common.{ap, ◌∙◌, subst, map, set}
use Rattle.std.proofs.lemmas.Result.{on_ok_weaker, on_err_weaker}
use Rattle.mama_bridge.specs.Links.{SubWishes, sub_seen, wish_outs, wished_once}
use Rattle.mama_bridge.specs.Linked.{Linked, entry_seen, entry_sub, subs_in}
use Rattle.mama_bridge.specs.Placed.{present}
use Rattle.mama_bridge.proofs.LinkLemmas.{are_indexed, noted_same, read_at}
use Rattle.mama_bridge.proofs.RowLemmas.{entry_done, none_done, seen_present}
use Rattle.mama_bridge.proofs.Stepping.{seen_turn}
use Rattle.mama_bridge.proofs.links.Links.wish.Goals as goal

pub index_of-requires : goal.index_of-requires
index_of-requires g c = are_indexed c.self.inside.indexes c.self.inside.entries.items c.self.invariant.indexed

pub invariant_of-self : goal.invariant_of-self
invariant_of-self g c =
    let entries = c.self.inside.entries.items in
    noted_same c.self.inside.indexes (subs_in entries) (subs_in (set entries c.in-Some.i c.wish_entry.new.entry)) c.self.inside.first c.self.inside.awaited
    (seen_turn entry_sub entries c.in-Some.i c.index_mut.result.now c.wish_entry.new.entry c.in-Some.ensures.within c.index_mut.ensures.value c.wish_entry.ensures.sub) c.self.invariant

pub returns-in-Some-clause-ok : goal.returns-in-Some-clause-ok
returns-in-Some-clause-ok g c =
    let entries = c.self.inside.entries.items in
    let read = read_at entries c.in-Some.i c.index_mut.result.now c.in-Some.ensures.within c.index_mut.ensures.value in
    on_ok_weaker c.wish_entry.result
    (λ step. subst (λ (p : Linked). SubWishes {L = g.row.L.Denot} c.args.sender c.args.sub p.links (present (set entries c.in-Some.i c.wish_entry.new.entry)) c.args.out.now.items c.wish_entry.new.out.items) c.self.view_is
    (λ rows h alone. entry_done wished_once (wish_outs c.args.sender) c.args.sub entries c.in-Some.i c.index_mut.result.now c.wish_entry.new.entry c.args.out.now.items c.wish_entry.new.out.items c.in-Some.ensures read c.wish_entry.ensures.sub step rows h))
    c.wish_entry.ensures.ok

pub returns-in-Some-clause-seen : goal.returns-in-Some-clause-seen
returns-in-Some-clause-seen g c =
    let entries = c.self.inside.entries.items in
    on_err_weaker c.wish_entry.result
    (λ same. seen_present (set entries c.in-Some.i c.wish_entry.new.entry) entries (seen_turn entry_seen entries c.in-Some.i c.index_mut.result.now c.wish_entry.new.entry c.in-Some.ensures.within c.index_mut.ensures.value same) ∙ ap (λ (p : Linked). map sub_seen p.links) c.self.view_is)
    c.wish_entry.ensures.seen

pub returns-in-None-clause-ok : goal.returns-in-None-clause-ok
returns-in-None-clause-ok g c =
    subst (λ (p : Linked). SubWishes {L = g.row.L.Denot} c.args.sender c.args.sub p.links p.links c.args.out.now.items c.args.out.now.items) c.self.view_is
    (λ rows h alone. none_done wished_once (wish_outs c.args.sender) c.args.sub (present c.self.inside.entries.items) c.args.out.now.items c.in-None.ensures rows h)
