use Rattle.std.specs.Prelude.{position}
use Rattle.std.proofs.Common.{List, Bool, ℕ, ◌≡◌, ◌∙◌, ◌==◌, ◌++◌, sym, ap, subst, false, [], ◌∷◌, map}
use Rattle.mama_link.specs.Standing.{standing_after}
use Rattle.mama_event.specs.declared.ids.InboxId.{InboxId}
use Rattle.mama_event.specs.declared.ids.ObjectId.TheVariants.{Sub}
use Rattle.mama_event.specs.declared.market.MsgKind.TheVariants.{Initial}
use Rattle.mama_event.specs.declared.to_publisher.ToPublisher.TheVariants as asked
use Rattle.mama_event.specs.declared.to_queue.Make.TheVariants as make
use Rattle.mama_event.specs.declared.to_queue.ToQueue.TheVariants as queued
use Rattle.mama_event.specs.declared.shape.Strategy.{Strategy}
use Rattle.mama_bridge.specs.declared.out.BridgeOut.TheVariants as out
use Rattle.mama_rules_services.specs.Bridge.{joins, wants_image}
use Rattle.mama_laws_bridge.specs.Table.{has_joined, slot_for, sub_slots, inbox_slots, ended_now, new_sub}
use Rattle.mama_slots.specs.Slots.{SlotData, in_use, IsNext}
use Rattle.mama_bridge.specs.Ids.{is_sub_among, is_inbox_among}
use Rattle.mama_bridge.specs.Links.{SubView, sub_seen, sub_view, inbox_seen, first_outs, image_outs}
use Rattle.mama_bridge.specs.Live.{Awaits, Gains}
use Rattle.mama_bridge.specs.declared.places.Place.{Place}
use Rattle.mama_bridge.proofs.HeldLemmas.{used_is, held_with_sub, held_next, next_free, held_same}
use Rattle.mama_bridge.proofs.Joining.{ended_same, adds_created, says_image}
use Rattle.mama_bridge.proofs.Spellings.{spelled_next}
use Rattle.mama_bridge.proofs.desk.Desk.join.Goals as goal

pub returns-clause-ok : goal.returns-clause-ok
returns-clause-ok g c table s sound =
    let before = c.args.self.now in
    let rest = c.ready_sub.ensures.rest in
    let last = c.add_sub.ensures.rest in
    let had : is_sub_among before.subs.places.joined c.args.sub ≡ false = sym c.if-has_joined.ensures in
    let new : has_joined c.args.sub table ≡ false = sym (s.subs.known c.args.sub) ∙ had in
    let queue : ℕ = c.args.terms.queue in
    let slot : c.in-Ok.slot ≡ slot_for c.args.terms.queue table = c.in-Ok.ensures.least (sub_slots queue table.subs ++ inbox_slots queue table.inboxes) (used_is table.subs table.inboxes before.slots s.slots queue) in
    let ended : c.is_ended-ended.result ≡ ended_now table = c.is_ended-ended.ensures ∙ ended_same _ _ _ _ _ _ s.clients s.sends s.settled in
    let link : sub_seen c.new_link-link.result ≡ sub_view (new_sub table c.args.sub c.args.terms) =
    c.new_link-link.ensures ∙ ap {B = SubView} (λ n. record { sub = c.args.sub; topic = c.args.terms.topic; queue = c.args.terms.queue; slot = n; recaps = c.args.terms.recaps; wished = 0; link = standing_after c.args.terms.faults [] }) slot in
    let place : Place = record { sub = c.args.sub; topic = c.args.terms.topic; queue = c.args.terms.queue; slot = slot_for c.args.terms.queue table } in
    let awaits : Awaits (ended_now table) place before.subs c.ready_sub.new.self.subs =
    subst (λ (b : Bool). Awaits b place before.subs c.ready_sub.new.self.subs) ended
    (subst (λ (n : ℕ). Awaits c.is_ended-ended.result (record { sub = c.args.sub; topic = c.args.terms.topic; queue = c.args.terms.queue; slot = n }) before.subs c.ready_sub.new.self.subs) slot c.in-Ok.ensures.subs) in
    let gains : Gains (ended_now table) c.new_link-link.result c.ready_sub.new.self.subs c.add_sub.new.self.subs = subst (λ (b : Bool). Gains b c.new_link-link.result c.ready_sub.new.self.subs c.add_sub.new.self.subs) ended c.add_sub.ensures.subs in
    let outs = image_outs c.args.terms.kind (first_outs (position (λ x. x == c.args.terms.topic) c.args.shape.now.publisher_topics) (asked.Want c.args.sub Initial)) in
    rw had (record {
      stands = record {
        opened = λ one. ap (λ (known : List InboxId). is_inbox_among known one) (last.opened ∙ rest.opened) ∙ s.opened one;
        subs = rw new (gains before.subs table.joined table.subs (new_sub table c.args.sub c.args.terms) s.subs awaits link);
        inboxes = ap (λ xs. map inbox_seen xs) (last.inboxes ∙ rest.inboxes) ∙ s.inboxes;
        slots = rw new (held_with_sub (ended_now table) table.subs table.inboxes (new_sub table c.args.sub c.args.terms) before.slots c.hold_unless.new.slots s.slots
            (next_free before.slots c.ready_sub.new.self.slots queue c.in-Ok.slot (slot_for queue table) c.ready_sub.ensures.held c.in-Ok.ensures.next slot)
            (held_next before.slots c.add_sub.new.self.slots c.hold_unless.new.slots queue c.in-Ok.slot (slot_for queue table) c.is_ended-ended.result (ended_now table)
            (λ of k. ap (λ (x : SlotData). in_use x of k) c.add_sub.ensures.slots ∙ c.ready_sub.ensures.held of k) c.hold_unless.ensures ended slot));
        clients = last.clients ∙ rest.clients ∙ s.clients;
        sends = last.sends ∙ rest.sends ∙ s.sends;
        settled = last.settled ∙ rest.settled ∙ s.settled;
        byes = last.byes ∙ rest.byes ∙ s.byes;
        spelled = spelled_next c.args.shape.now table (joins c.args.sub c.args.terms (g.L.Tagged.tagged c.args.listener)) tt s.spelled;
        replies_spelled = s.replies_spelled;
      };
      adds = rw new (adds_created g.L.Tagged.tagged c.args.out.now.items c.ready_sub.new.out.items c.push_reserved.new.self.items c.want_image.new.out.items c.args.terms.queue c.in-Ok.slot (slot_for c.args.terms.queue table) (Sub c.args.sub) (make.Sub c.args.terms.kind c.args.terms.cache c.args.shape.now.strategy) c.args.listener outs (wants_image c.args.shape.now c.args.sub c.args.terms.kind c.args.terms.topic)
          slot c.ready_sub.ensures.out
          (c.push_reserved.ensures.items ∙ ap (λ (t : Strategy). c.ready_sub.new.out.items ++ out.Queue c.args.terms.queue (queued.Create c.in-Ok.slot (Sub c.args.sub) (make.Sub c.args.terms.kind c.args.terms.cache t) c.args.listener) ∷ []) c.strategy-strategy.ensures)
          c.want_image.ensures (says_image g.L.Tagged.tagged c.args.shape.now c.args.sub c.args.terms.kind c.args.terms.topic));
    })

pub hold_unless-requires : goal.hold_unless-requires
hold_unless-requires g c = subst (λ (x : SlotData). IsNext x c.args.terms.queue c.in-Ok.slot) (sym c.add_sub.ensures.slots) c.in-Ok.ensures.next

pub returns-in-Err-clause-same : goal.returns-in-Err-clause-same
returns-in-Err-clause-same g c table s =
    let rest = c.ready_sub.ensures.rest in
    record {
      opened = λ one. ap (λ (known : List InboxId). is_inbox_among known one) rest.opened ∙ s.opened one;
      subs = c.in-Err.ensures.same_subs table.joined table.subs s.subs;
      inboxes = ap (λ xs. map inbox_seen xs) rest.inboxes ∙ s.inboxes;
      slots = held_same table.subs table.inboxes c.args.self.now.slots c.ready_sub.new.self.slots s.slots c.ready_sub.ensures.held;
      clients = rest.clients ∙ s.clients;
      sends = rest.sends ∙ s.sends;
      settled = rest.settled ∙ s.settled;
      byes = rest.byes ∙ s.byes;
      spelled = s.spelled;
      replies_spelled = s.replies_spelled;
    }
