use Rattle.std.specs.List.{flat_map}
use Rattle.std.proofs.Common.{List, ◌∙◌, ap, map, filter, sym, subst}
use Rattle.mama_event.specs.declared.ids.InboxId.{InboxId}
use Rattle.mama_rules_services.specs.Bridge.{closes}
use Rattle.mama_laws_bridge.specs.Table.{of_inbox, inbox_ends}
use Rattle.mama_bridge.specs.Ids.{is_inbox_among}
use Rattle.mama_slots.specs.Slots.{SlotData}
use Rattle.mama_bridge.specs.Held.{AreHeld}
use Rattle.mama_bridge.specs.Links.{inbox_seen, inbox_end_outs}
use Rattle.mama_bridge.proofs.HeldLemmas.{held_without_inbox, on_ok_both, on_err_both}
use Rattle.mama_bridge.proofs.Adding.{says_inbox_ends, adds_said}
use Rattle.mama_bridge.proofs.Spellings.{Arrives, IsReplySpelled, all_filter, replies_next}
use Rattle.mama_bridge.proofs.desk.Desk.close.Goals as goal

pub returns-clause-ok : goal.returns-clause-ok
returns-clause-ok g c =
    let laws : Arrives = record { whole = c.packed_messages_arrive.ensures.whole; cut = c.packed_messages_arrive.ensures.cut; whole_replies = c.packed_messages_arrive.ensures.whole_replies; cut_replies = c.packed_messages_arrive.ensures.cut_replies } in
    on_ok_both c.close.result
    (λ done frees. λ shape table s sound.
    let both = done table.inboxes s.inboxes in
    record {
      stands = record { opened = λ one. ap (λ (ids : List InboxId). is_inbox_among ids one) c.close.ensures.opened ∙ s.opened one; subs = s.subs; inboxes = both.0; slots = held_without_inbox (of_inbox c.args.inbox) table.subs table.inboxes c.args.self.now.slots c.close.new.slots s.slots (frees table.inboxes s.inboxes); clients = s.clients; sends = s.sends; settled = s.settled; byes = s.byes; spelled = s.spelled; replies_spelled = replies_next table (closes c.args.inbox) tt s.replies_spelled };
      adds = adds_said g.L.Tagged.tagged c.args.out.now.items c.close.new.out.items (flat_map inbox_end_outs (filter (of_inbox c.args.inbox) table.inboxes)) (flat_map inbox_ends (filter (of_inbox c.args.inbox) table.inboxes)) both.1 (says_inbox_ends g.L.Tagged.tagged laws (filter (of_inbox c.args.inbox) table.inboxes) (all_filter IsReplySpelled (of_inbox c.args.inbox) table.inboxes s.replies_spelled));
    })
    c.close.ensures.ok c.close.ensures.frees

pub returns-clause-same : goal.returns-clause-same
returns-clause-same g c =
    on_err_both c.close.result
    (λ same held. λ table s. record { opened = λ one. ap (λ (ids : List InboxId). is_inbox_among ids one) c.close.ensures.opened ∙ s.opened one; subs = s.subs; inboxes = ap (map inbox_seen) same ∙ s.inboxes; slots = subst (λ (slots : SlotData). AreHeld slots table.subs table.inboxes) (sym held) s.slots; clients = s.clients; sends = s.sends; settled = s.settled; byes = s.byes; spelled = s.spelled; replies_spelled = s.replies_spelled })
    c.close.ensures.same c.close.ensures.held
