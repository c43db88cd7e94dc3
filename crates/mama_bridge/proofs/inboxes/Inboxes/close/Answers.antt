use Rattle.std.proofs.Common.{ap, ◌∙◌, subst, set, None}
use Rattle.std.proofs.lemmas.List.{set-get_or}
use Rattle.std.specs.declared.option.Option.{Option}
use Rattle.mama_bridge.specs.declared.inboxes.InboxLink.{InboxLink}
use Rattle.std.proofs.lemmas.Result.{on_ok_weaker, on_err_weaker}
use Rattle.mama_bridge.specs.Links.{InboxCloses, InboxFrees, inbox_end_outs}
use Rattle.mama_bridge.specs.Opened.{Opened}
use Rattle.mama_bridge.specs.Placed.{present}
use Rattle.mama_bridge.proofs.HeldLemmas.{entry_freed, none_there}
use Rattle.mama_bridge.proofs.InboxLemmas.{read_at, entry_closed, none_closed, indexed_without}
use Rattle.mama_bridge.proofs.inboxes.Inboxes.close.Goals as goal

pub invariant_of-self : goal.invariant_of-self
invariant_of-self g c =
    indexed_without c.self.inside.indexes c.self.inside.entries.items c.in-Some.i c.index_mut.result.now c.close_entry.new.entry
    (read_at c.self.inside.entries.items c.in-Some.i c.index_mut.result.now c.in-Some.ensures.within c.index_mut.ensures.value) c.close_entry.ensures.less c.self.invariant

pub returns-in-Some-clause-ok : goal.returns-in-Some-clause-ok
returns-in-Some-clause-ok g c =
    let entries = c.self.inside.entries.items in
    let read = read_at entries c.in-Some.i c.index_mut.result.now c.in-Some.ensures.within c.index_mut.ensures.value in
    on_ok_weaker c.close_entry.result
    (λ closes. subst (λ (p : Opened). InboxCloses {L = g.row.L.Denot} c.args.inbox p.links (present (set entries c.in-Some.i c.close_entry.new.entry)) c.args.out.now.items c.close_entry.new.out.items) c.self.view_is
    (entry_closed inbox_end_outs c.args.inbox entries c.in-Some.i c.index_mut.result.now c.close_entry.new.entry c.args.out.now.items c.close_entry.new.out.items c.in-Some.ensures read closes))
    c.close_entry.ensures.ok

pub returns-in-Some-clause-same : goal.returns-in-Some-clause-same
returns-in-Some-clause-same g c =
    let entries = c.self.inside.entries.items in
    let read = read_at entries c.in-Some.i c.index_mut.result.now c.in-Some.ensures.within c.index_mut.ensures.value in
    on_err_weaker c.close_entry.result
    (λ same. ap (λ (e : Option InboxLink). present (set entries c.in-Some.i e)) (same ∙ read) ∙ ap present (set-get_or entries c.in-Some.i None) ∙ ap (λ (p : Opened). p.links) c.self.view_is)
    c.close_entry.ensures.same

pub returns-in-None-clause-ok : goal.returns-in-None-clause-ok
returns-in-None-clause-ok g c =
    subst (λ (p : Opened). InboxCloses {L = g.row.L.Denot} c.args.inbox p.links p.links c.args.out.now.items c.args.out.now.items) c.self.view_is
    (none_closed inbox_end_outs c.args.inbox (present c.self.inside.entries.items) c.args.out.now.items c.in-None.ensures)

pub returns-in-Some-clause-frees : goal.returns-in-Some-clause-frees
returns-in-Some-clause-frees g c =
    let entries = c.self.inside.entries.items in
    let read = read_at entries c.in-Some.i c.index_mut.result.now c.in-Some.ensures.within c.index_mut.ensures.value in
    on_ok_weaker c.close_entry.result
    (λ frees. subst (λ (p : Opened). InboxFrees c.args.inbox p.links c.args.slots.now c.close_entry.new.slots) c.self.view_is
    (entry_freed c.args.inbox entries c.in-Some.i c.index_mut.result.now c.args.slots.now c.close_entry.new.slots c.in-Some.ensures read frees))
    c.close_entry.ensures.frees

pub returns-in-None-clause-frees : goal.returns-in-None-clause-frees
returns-in-None-clause-frees g c =
    subst (λ (p : Opened). InboxFrees c.args.inbox p.links c.args.slots.now c.args.slots.now) c.self.view_is
    (none_there c.args.inbox (present c.self.inside.entries.items) c.args.slots.now c.in-None.ensures)
