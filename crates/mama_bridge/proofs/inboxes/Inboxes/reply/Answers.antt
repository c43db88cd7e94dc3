use Rattle.std.proofs.Common.{ap, ◌∙◌, subst, map, set}
use Rattle.std.proofs.lemmas.Result.{on_ok_weaker, on_err_weaker}
use Rattle.mama_laws_bridge.specs.Table.{inbox_passed}
use Rattle.mama_bridge.specs.Links.{InboxPass, inbox_seen, inbox_emit_outs}
use Rattle.mama_bridge.specs.Opened.{Opened}
use Rattle.mama_bridge.specs.Placed.{present}
use Rattle.mama_bridge.proofs.InboxLemmas.{read_at, entry_done, entry_still, indexed_entry, none_done}
use Rattle.mama_bridge.proofs.inboxes.Inboxes.reply.Goals as goal

pub invariant_of-self : goal.invariant_of-self
invariant_of-self g c =
    indexed_entry c.self.inside.indexes c.self.inside.entries.items c.in-Some.i c.index_mut.result.now c.answer_entry.new.entry
    (read_at c.self.inside.entries.items c.in-Some.i c.index_mut.result.now c.in-Some.ensures.within c.index_mut.ensures.value) c.answer_entry.ensures.named c.self.invariant

pub returns-in-Some-clause-ok : goal.returns-in-Some-clause-ok
returns-in-Some-clause-ok g c =
    let entries = c.self.inside.entries.items in
    let read = read_at entries c.in-Some.i c.index_mut.result.now c.in-Some.ensures.within c.index_mut.ensures.value in
    on_ok_weaker c.answer_entry.result
    (λ step. λ fields same. subst (λ (p : Opened). InboxPass {L = g.row.L.Denot} c.args.inbox fields p.links (present (set entries c.in-Some.i c.answer_entry.new.entry)) c.args.out.now.items c.answer_entry.new.out.items) c.self.view_is
    (entry_done (inbox_passed fields) (inbox_emit_outs fields) c.args.inbox entries c.in-Some.i c.index_mut.result.now c.answer_entry.new.entry c.args.out.now.items c.answer_entry.new.out.items c.in-Some.ensures read c.answer_entry.ensures.named (step fields same)))
    c.answer_entry.ensures.ok

pub returns-in-Some-clause-seen : goal.returns-in-Some-clause-seen
returns-in-Some-clause-seen g c =
    let entries = c.self.inside.entries.items in
    let read = read_at entries c.in-Some.i c.index_mut.result.now c.in-Some.ensures.within c.index_mut.ensures.value in
    on_err_weaker c.answer_entry.result
    (λ same. entry_still c.args.inbox entries c.in-Some.i c.index_mut.result.now c.answer_entry.new.entry c.in-Some.ensures read same ∙ ap (λ (p : Opened). map inbox_seen p.links) c.self.view_is)
    c.answer_entry.ensures.seen

pub returns-in-None-clause-ok : goal.returns-in-None-clause-ok
returns-in-None-clause-ok g c fields same =
    subst (λ (p : Opened). InboxPass {L = g.row.L.Denot} c.args.inbox fields p.links p.links c.args.out.now.items c.args.out.now.items) c.self.view_is
    (none_done (inbox_passed fields) (inbox_emit_outs fields) c.args.inbox (present c.self.inside.entries.items) c.args.out.now.items c.in-None.ensures)
