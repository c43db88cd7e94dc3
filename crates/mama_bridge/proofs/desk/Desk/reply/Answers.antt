use Rattle.std.specs.List.{flat_map}
use Rattle.std.proofs.Common.{List, ap, ◌∙◌, filter}
use Rattle.std.proofs.lemmas.Result.{on_ok_weaker, on_err_weaker}
use Rattle.mama_event.specs.declared.ids.InboxId.{InboxId}
use Rattle.mama_rules_services.specs.Bridge.{replies}
use Rattle.mama_laws_bridge.specs.Table.{of_inbox, inbox_emits}
use Rattle.mama_bridge.specs.Ids.{is_inbox_among}
use Rattle.mama_bridge.specs.Links.{inbox_emit_outs}
use Rattle.mama_bridge.proofs.HeldLemmas.{held_passed}
use Rattle.mama_bridge.proofs.Adding.{says_inbox_emits, adds_said}
use Rattle.mama_bridge.proofs.Spellings.{Arrives, IsReplySpelled, all_filter, replies_next}
use Rattle.mama_bridge.proofs.desk.Desk.reply.Goals as goal

pub returns-clause-ok : goal.returns-clause-ok
returns-clause-ok g c =
    let laws : Arrives = record { whole = c.packed_messages_arrive.ensures.whole; cut = c.packed_messages_arrive.ensures.cut; whole_replies = c.packed_messages_arrive.ensures.whole_replies; cut_replies = c.packed_messages_arrive.ensures.cut_replies } in
    on_ok_weaker c.reply.result
    (λ done. λ shape fields spells table s sound.
    let both = done fields spells.1 table.inboxes s.inboxes in
    record {
      stands = record { opened = λ one. ap (λ (ids : List InboxId). is_inbox_among ids one) c.reply.ensures.opened ∙ s.opened one; subs = s.subs; inboxes = both.0; slots = held_passed (of_inbox c.args.inbox) fields table.subs table.inboxes c.args.self.now.slots s.slots; clients = s.clients; sends = s.sends; settled = s.settled; byes = s.byes; spelled = s.spelled; replies_spelled = replies_next table (replies c.args.inbox fields) spells.0 s.replies_spelled };
      adds = adds_said g.L.Tagged.tagged c.args.out.now.items c.reply.new.out.items (flat_map (inbox_emit_outs fields) (filter (of_inbox c.args.inbox) table.inboxes)) (flat_map (inbox_emits fields) (filter (of_inbox c.args.inbox) table.inboxes)) both.1 (says_inbox_emits g.L.Tagged.tagged laws fields spells.0 (filter (of_inbox c.args.inbox) table.inboxes) (all_filter IsReplySpelled (of_inbox c.args.inbox) table.inboxes s.replies_spelled));
    })
    c.reply.ensures.ok

pub returns-clause-same : goal.returns-clause-same
returns-clause-same g c =
    on_err_weaker c.reply.result
    (λ same. λ table s. record { opened = λ one. ap (λ (ids : List InboxId). is_inbox_among ids one) c.reply.ensures.opened ∙ s.opened one; subs = s.subs; inboxes = same ∙ s.inboxes; slots = s.slots; clients = s.clients; sends = s.sends; settled = s.settled; byes = s.byes; spelled = s.spelled; replies_spelled = s.replies_spelled })
    c.reply.ensures.seen
