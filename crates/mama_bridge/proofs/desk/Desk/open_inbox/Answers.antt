use Rattle.std.proofs.Common.{ℕ, ◌++◌, ◌≡◌, ◌∙◌, sym, ap, false, [], map, append-nil}
use Rattle.mama_link.specs.Standing.{standing_after}
use Rattle.mama_event.specs.declared.ids.ObjectId.TheVariants.{Inbox}
use Rattle.mama_event.specs.declared.to_queue.Make.TheVariants as make
use Rattle.mama_rules_services.specs.Bridge.{opens}
use Rattle.mama_laws_bridge.specs.Table.{has_opened, slot_for, sub_slots, inbox_slots, ended_now, new_inbox}
use Rattle.mama_bridge.specs.Ids.{is_inbox_among}
use Rattle.mama_bridge.specs.Links.{InboxView, inbox_view, inbox_seen}
use Rattle.mama_bridge.specs.Opened.{Opened, new_inbox_view}
use Rattle.mama_bridge.proofs.HeldLemmas.{used_is, held_with_inbox, held_next, next_free, held_same}
use Rattle.mama_bridge.proofs.Adding.{says_none}
use Rattle.mama_bridge.proofs.Known.{inbox_opened}
use Rattle.mama_bridge.proofs.Joining.{ended_same, seen_more, adds_created}
use Rattle.mama_bridge.proofs.Spellings.{replies_next}
use Rattle.mama_bridge.proofs.desk.Desk.open_inbox.Goals as goal

pub returns-clause-ok : goal.returns-clause-ok
returns-clause-ok g c shape table s sound =
    let before = c.args.self.now in
    let had : is_inbox_among before.inboxes.opened c.args.inbox ≡ false = sym c.if-has_opened.ensures in
    let new : has_opened c.args.inbox table ≡ false = sym (s.opened c.args.inbox) ∙ had in
    let queue : ℕ = c.args.terms.queue in
    let slot : c.in-Ok.slot ≡ slot_for c.args.terms.queue table = c.in-Ok.ensures.least (sub_slots queue table.subs ++ inbox_slots queue table.inboxes) (used_is table.subs table.inboxes before.slots s.slots queue) in
    let ended : c.is_ended-ended.result ≡ ended_now table = c.is_ended-ended.ensures ∙ ended_same _ _ _ _ _ _ s.clients s.sends s.settled in
    let link : new_inbox_view c.args.inbox c.args.terms.queue c.in-Ok.slot c.args.terms.faults ≡ inbox_view (new_inbox table c.args.inbox c.args.terms) =
    ap {B = InboxView} (λ n. record { inbox = c.args.inbox; queue = c.args.terms.queue; slot = n; link = standing_after c.args.terms.faults [] }) slot in
    rw had (record {
      stands = record {
        opened = rw new (inbox_opened c.args.inbox before.inboxes.opened c.open.new.self.opened table.opened c.in-Ok-open.ensures.opened s.opened);
        subs = s.subs;
        inboxes = rw new (seen_more inbox_view (map inbox_seen c.open.new.self.links) (map inbox_seen before.inboxes.links) table.inboxes (new_inbox_view c.args.inbox c.args.terms.queue c.in-Ok.slot c.args.terms.faults) (new_inbox table c.args.inbox c.args.terms) c.is_ended-ended.result (ended_now table) c.in-Ok-open.ensures.links s.inboxes link ended);
        slots = rw new (held_with_inbox (ended_now table) table.subs table.inboxes (new_inbox table c.args.inbox c.args.terms) before.slots c.hold_unless.new.slots s.slots
            (next_free before.slots c.ready_slot.new.slots queue c.in-Ok.slot (slot_for queue table) c.ready_slot.ensures.held c.in-Ok.ensures.next slot)
            (held_next before.slots c.ready_slot.new.slots c.hold_unless.new.slots queue c.in-Ok.slot (slot_for queue table) c.is_ended-ended.result (ended_now table) c.ready_slot.ensures.held c.hold_unless.ensures ended slot));
        clients = s.clients;
        sends = s.sends;
        settled = s.settled;
        byes = s.byes;
        spelled = s.spelled;
        replies_spelled = replies_next table (opens c.args.inbox c.args.terms (g.L.Tagged.tagged c.args.listener)) tt s.replies_spelled;
      };
      adds = rw new (adds_created g.L.Tagged.tagged c.args.out.now.items c.ready_slot.new.out.items c.push_reserved.new.self.items c.push_reserved.new.self.items c.args.terms.queue c.in-Ok.slot (slot_for c.args.terms.queue table) (Inbox c.args.inbox) make.Inbox c.args.listener [] []
          slot c.ready_slot.ensures.out c.push_reserved.ensures.items (sym (append-nil c.push_reserved.new.self.items)) (says_none g.L.Tagged.tagged));
    })

pub returns-in-Err-clause-same : goal.returns-in-Err-clause-same
returns-in-Err-clause-same g c table s = record { opened = s.opened; subs = s.subs; inboxes = s.inboxes; slots = held_same table.subs table.inboxes c.args.self.now.slots c.ready_slot.new.slots s.slots c.ready_slot.ensures.held; clients = s.clients; sends = s.sends; settled = s.settled; byes = s.byes; spelled = s.spelled; replies_spelled = s.replies_spelled }

pub returns-in-Err-open-clause-same : goal.returns-in-Err-open-clause-same
returns-in-Err-open-clause-same g c table s =
    let same = c.in-Err-open.ensures.err in
    record {
      opened = λ one. ap (λ (o : Opened). is_inbox_among o.opened one) same ∙ s.opened one;
      subs = s.subs;
      inboxes = ap (λ (o : Opened). map inbox_seen o.links) same ∙ s.inboxes;
      slots = held_same table.subs table.inboxes c.args.self.now.slots c.ready_slot.new.slots s.slots c.ready_slot.ensures.held;
      clients = s.clients;
      sends = s.sends;
      settled = s.settled;
      byes = s.byes;
      spelled = s.spelled;
      replies_spelled = s.replies_spelled;
    }
