-- What the bridge puts carries only messages that came, and asks for images as such.
use Rattle.std.specs.Prelude.{◌-◌, ◌&&◌, not, position, slice_index, if◌then◌else◌, Ok, Err}
use Rattle.std.specs.List.{AllByRecursion, list_any}
use Rattle.std.proofs.Common.{ℕ, ◌==◌, Bool, true, false, List, [], ◌∷◌, Option, None, Some}
use Rattle.mama_msg.specs.Field.{FieldData}
use Rattle.mama_journal.specs.Journal.{first_said}
use Rattle.mama_link.specs.Link.{rest}
use Rattle.mama_event.specs.Object.{same_sub, same_inbox}
use Rattle.mama_event.specs.declared.ids.SubId.{SubId}
use Rattle.mama_event.specs.declared.ids.InboxId.{InboxId}
use Rattle.mama_event.specs.declared.ids.ObjectId.{ObjectId}
use Rattle.mama_event.specs.declared.ids.ObjectId.TheVariants.{Sub, Inbox}
use Rattle.mama_event.specs.declared.shape.Shape.{Shape}
use Rattle.mama_event.specs.Arrival.{Arrival, ReplyArrival, arriving, answering, cut_arrival, cut_reply}
use Rattle.mama_event.specs.Noted.{delivered_note, replied_note}
use Rattle.mama_event.specs.declared.market.MarketMsg.{MarketMsg}
use Rattle.mama_event.specs.declared.market.MsgKind.TheVariants.{Initial, Recap}
use Rattle.mama_event.specs.declared.market.SubKind.{SubKind}
use Rattle.mama_event.specs.declared.market.SubKind.TheVariants.{Market, Snapshot, Basic}
use Rattle.mama_event.specs.declared.to_bridge.SubTerms.{SubTerms}
use Rattle.mama_event.specs.declared.to_bridge.BridgeNote.{BridgeNote}
use Rattle.mama_event.specs.declared.to_bridge.BridgeNote.TheVariants as b
use Rattle.mama_event.specs.declared.to_queue.QueueNote.{QueueNote}
use Rattle.mama_event.specs.declared.to_queue.QueueNote.TheVariants as q
use Rattle.mama_event.specs.declared.to_publisher.PublisherNote.{PublisherNote}
use Rattle.mama_event.specs.declared.to_publisher.PublisherNote.TheVariants as p
use Rattle.mama_event.specs.declared.to_queue.Make.TheVariants as make
use Rattle.mama_rules_services.specs.Ports.{Putter, ByClient, ByPublisher, ByQueue, ByBridge, ByTimers, ByNobody, bridge_putter}
use Rattle.mama_rules_services.specs.Bridge.{BridgeEvent, joins, leaves, opens, closes, asks, publishes, images, replies, wishes, no_event, from_client, from_publisher, from_queue, put_by, heard, terms_in, is_live, live_subs, open_inboxes, sent_to, sent_with, window, faults_of, inbox_faults_of, inbox_terms_in, reply_window, replied_to, joins_sub, opens_inbox, is_open, is_settling, free_slot, may_wish, BridgePut, to_publisher, to_queue, place_of, to_place, to_found, to_first, wants_image, delivered, replied, gone, passed_on, passed, passed_reply, ended, ended_inbox, answer, bridge_reaction, bridge_puts}
use Rattle.mama_laws_genuine.specs.Sent.{Delivers}
use Rattle.mama_laws_genuine.proofs.Elements.{all_append, all_if, all_flat_map, all_flat, all_map, all_puts_after, all_puts_so_far}
use Rattle.mama_laws_genuine.proofs.Reactions as reactions
use Rattle.mama_laws_genuine.proofs.Carried.{InBridgeNote, InEvent, InBridgePut, AsksImage}
use Rattle.mama_laws_genuine.proofs.Linked.{all_passed_on, all_rest}
use Rattle.mama_laws_genuine.proofs.Arrived.{Comes, comes_cut, all_coming, Answers, answers_cut, all_answering}

module _ (G : MarketMsg → Type 0) (R : List FieldData → Type 0) where
  -- ---- what the bridge hears

  event_if : (c : Bool) (e f : BridgeEvent) → InEvent G R e → InEvent G R f → InEvent G R (if c then e else f)
  event_if true e f one two = one
  event_if false e f one two = two

  client_heard : (c : ℕ) (note : BridgeNote) → InEvent G R (from_client c note)
  client_heard c (b.Join sub terms tag) = event_if (sub.client == c) (joins sub terms tag) no_event tt tt
  client_heard c (b.OpenInbox inbox terms tag) = event_if (inbox.client == c) (opens inbox terms tag) no_event tt tt
  client_heard c _ = tt

  publisher_heard : (r : ℕ) (note : BridgeNote) → InBridgeNote G R note → InEvent G R (from_publisher r note)
  publisher_heard r (b.Publish msg) h = h
  publisher_heard r (b.Image sub msg) h = h
  publisher_heard r (b.Reply inbox body) h = h
  publisher_heard r _ h = tt

  queue_heard : (k : ℕ) (note : BridgeNote) → InEvent G R (from_queue k note)
  queue_heard k (b.Join sub terms tag) = tt
  queue_heard k _ = tt

  event_heard : (putter : Putter) (note : BridgeNote) → InBridgeNote G R note → InEvent G R (put_by putter note)
  event_heard (ByClient c) note h = client_heard c note
  event_heard (ByPublisher r) note h = publisher_heard r note h
  event_heard (ByQueue k) note h = queue_heard k note
  event_heard ByBridge note h = tt
  event_heard ByTimers note h = tt
  event_heard ByNobody note h = tt

  all_heard : (shape : Shape) (journal : List (ℕ × BridgeNote)) → AllByRecursion (λ (e : ℕ × BridgeNote). InBridgeNote G R e.1) journal
      → AllByRecursion (InEvent G R) (heard shape journal)
  all_heard shape journal all =
      all_map (λ (e : ℕ × BridgeNote). InBridgeNote G R e.1) (InEvent G R) (λ (e : ℕ × BridgeNote). put_by (bridge_putter shape e.0) e.1)
      (λ e h. event_heard (bridge_putter shape e.0) e.1 h) journal all

  -- ---- what goes into a link

  all_sent_to : (shape : Shape) (s : SubId) (topic : ℕ) (e : BridgeEvent) → InEvent G R e → AllByRecursion G (sent_to shape s topic e)
  all_sent_to shape s topic (publishes r msg) h = all_if G (slice_index shape.publisher_topics r == topic) (msg ∷ []) [] (h, tt) tt
  all_sent_to shape s topic (images r msg) h = all_if G (same_sub r s) (msg ∷ []) [] (h, tt) tt
  all_sent_to shape s topic _ h = tt

  all_sent : (shape : Shape) (s : SubId) (terms : Option SubTerms) (e : BridgeEvent) → InEvent G R e → AllByRecursion G (sent_with shape s terms e)
  all_sent shape s None e h = tt
  all_sent shape s (Some terms) e h = all_sent_to shape s terms.topic e h

  all_window : (shape : Shape) (s : SubId) (es : List BridgeEvent) → AllByRecursion (InEvent G R) es → AllByRecursion G (window shape s es)
  all_window shape s es all =
      all_puts_after (InEvent G R) G (λ (before : List BridgeEvent) (e : BridgeEvent). if is_live shape s before then sent_with shape s (first_said (terms_in s) before) e else [])
      (λ before e h. all_if G (is_live shape s before) (sent_with shape s (first_said (terms_in s) before) e) [] (all_sent shape s (first_said (terms_in s) before) e h) tt)
      [] es all

  all_replied_to : (i : InboxId) (e : BridgeEvent) → InEvent G R e → AllByRecursion R (replied_to i e)
  all_replied_to i (replies j body) h = all_if R (same_inbox j i) (body ∷ []) [] (h, tt) tt
  all_replied_to i _ h = tt

  all_reply_window : (shape : Shape) (i : InboxId) (es : List BridgeEvent) → AllByRecursion (InEvent G R) es → AllByRecursion R (reply_window shape i es)
  all_reply_window shape i es all =
      all_puts_after (InEvent G R) R (λ (before : List BridgeEvent) (e : BridgeEvent). if is_open shape i before then replied_to i e else [])
      (λ before e h. all_if R (is_open shape i before) (replied_to i e) [] (all_replied_to i e h) tt) [] es all

  -- ---- what the bridge puts

  placed : (place : Option (ℕ × ℕ)) (event : ℕ → QueueNote) → ((slot : ℕ) → Delivers G R (event slot)) → AllByRecursion (InBridgePut G R) (to_place place event)
  placed None event h = tt
  placed (Some place) event h = (h place.1, tt)

  one_delivered : (s : SubId) (sofar : List BridgePut) (arrival : Arrival) → Comes G arrival
      → AllByRecursion (InBridgePut G R) (to_place (place_of (Sub s) sofar) (λ slot. delivered_note slot s arrival))
  one_delivered s sofar (Ok m) h = placed (place_of (Sub s) sofar) (λ slot. q.Deliver slot s m) (λ slot. h)
  one_delivered s sofar (Err piece) h = placed (place_of (Sub s) sofar) (λ slot. q.Bad slot s piece.kind piece.sender piece.seq piece.body) (λ slot. tt)

  all_delivered : (s : SubId) (sofar : List BridgePut) (arrivals : List Arrival) → AllByRecursion (Comes G) arrivals → AllByRecursion (InBridgePut G R) (delivered s sofar arrivals)
  all_delivered s sofar arrivals all =
      all_flat_map (Comes G) (InBridgePut G R) (λ (a : Arrival). to_place (place_of (Sub s) sofar) (λ slot. delivered_note slot s a)) (one_delivered s sofar) arrivals all

  one_replied : (i : InboxId) (sofar : List BridgePut) (arrival : ReplyArrival) → Answers R arrival
      → AllByRecursion (InBridgePut G R) (to_place (place_of (Inbox i) sofar) (λ slot. replied_note slot i arrival))
  one_replied i sofar (Ok body) h = placed (place_of (Inbox i) sofar) (λ slot. q.Reply slot i body) (λ slot. h)
  one_replied i sofar (Err bytes) h = placed (place_of (Inbox i) sofar) (λ slot. q.BadReply slot i bytes) (λ slot. tt)

  all_replied : (i : InboxId) (sofar : List BridgePut) (arrivals : List ReplyArrival) → AllByRecursion (Answers R) arrivals → AllByRecursion (InBridgePut G R) (replied i sofar arrivals)
  all_replied i sofar arrivals all =
      all_flat_map (Answers R) (InBridgePut G R) (λ (a : ReplyArrival). to_place (place_of (Inbox i) sofar) (λ slot. replied_note slot i a)) (one_replied i sofar) arrivals all

  all_gone : (o : ObjectId) (sofar : List BridgePut) → AllByRecursion (InBridgePut G R) (gone o sofar)
  all_gone o sofar = placed (place_of o sofar) (λ slot. q.Gone slot o) (λ slot. tt)

  all_found : (found : Option ℕ) (note : PublisherNote) → AsksImage note → AllByRecursion (InBridgePut G R) (to_found found note)
  all_found None note h = tt
  all_found (Some r) note h = (h, tt)

  all_first : (shape : Shape) (topic : ℕ) (note : PublisherNote) → AsksImage note → AllByRecursion (InBridgePut G R) (to_first shape topic note)
  all_first shape topic note h = all_found (position (λ n. n == topic) shape.publisher_topics) note h

  all_wanted : (shape : Shape) (s : SubId) (kind : SubKind) (topic : ℕ) → AllByRecursion (InBridgePut G R) (wants_image shape s kind topic)
  all_wanted shape s Basic topic = tt
  all_wanted shape s Market topic = all_first shape topic (p.Want s Initial) tt
  all_wanted shape s Snapshot topic = all_first shape topic (p.Want s Initial) tt

  module _ (shape : Shape) (before : List BridgeEvent) (sofar : List BridgePut) (all : AllByRecursion (InEvent G R) before) where
    arriving_window : (s : SubId) → AllByRecursion (Comes G) (arriving (window shape s before))
    arriving_window s = all_coming G (window shape s before) (all_window shape s before all)

    answering_window : (i : InboxId) → AllByRecursion (Answers R) (answering (reply_window shape i before))
    answering_window i = all_answering R (reply_window shape i before) (all_reply_window shape i before all)

    all_passed : (e : BridgeEvent) (s : SubId) → InEvent G R e → AllByRecursion (InBridgePut G R) (passed shape before sofar e s)
    all_passed e s h =
        let terms : Option SubTerms = first_said (terms_in s) before in
        all_delivered s sofar (passed_on cut_arrival (faults_of terms) (arriving (window shape s before)) (arriving (sent_with shape s terms e)))
        (all_passed_on (Comes G) cut_arrival (comes_cut G) (faults_of terms) (arriving (window shape s before)) (arriving (sent_with shape s terms e))
        (arriving_window s) (all_coming G (sent_with shape s terms e) (all_sent shape s terms e h)))

    all_passed_reply : (e : BridgeEvent) (i : InboxId) → InEvent G R e → AllByRecursion (InBridgePut G R) (passed_reply shape before sofar e i)
    all_passed_reply e i h =
        let faults = inbox_faults_of (first_said (inbox_terms_in i) before) in
        all_replied i sofar (passed_on cut_reply faults (answering (reply_window shape i before)) (answering (replied_to i e)))
        (all_passed_on (Answers R) cut_reply (answers_cut R) faults (answering (reply_window shape i before)) (answering (replied_to i e))
        (answering_window i) (all_answering R (replied_to i e) (all_replied_to i e h)))

    all_ended : (s : SubId) → AllByRecursion (InBridgePut G R) (ended shape before sofar s)
    all_ended s =
        let faults = faults_of (first_said (terms_in s) before) in
        all_append (InBridgePut G R) (delivered s sofar (rest faults (arriving (window shape s before)))) (gone (Sub s) sofar)
        (all_delivered s sofar (rest faults (arriving (window shape s before)))
        (all_rest (Comes G) cut_arrival (comes_cut G) faults (arriving (window shape s before)) (arriving_window s)))
        (all_gone (Sub s) sofar)

    all_ended_inbox : (i : InboxId) → AllByRecursion (InBridgePut G R) (ended_inbox shape before sofar i)
    all_ended_inbox i =
        let faults = inbox_faults_of (first_said (inbox_terms_in i) before) in
        all_append (InBridgePut G R) (replied i sofar (rest faults (answering (reply_window shape i before)))) (gone (Inbox i) sofar)
        (all_replied i sofar (rest faults (answering (reply_window shape i before)))
        (all_rest (Answers R) cut_reply (answers_cut R) faults (answering (reply_window shape i before)) (answering_window i)))
        (all_gone (Inbox i) sofar)

    all_answered : (e : BridgeEvent) → InEvent G R e → AllByRecursion (InBridgePut G R) (answer shape before sofar e)
    all_answered (joins s terms tag) h =
        all_if (InBridgePut G R) (list_any (joins_sub s) before) []
        (to_queue terms.queue (q.Create (free_slot shape before sofar terms.queue) (Sub s) (make.Sub terms.kind terms.cache shape.strategy) tag) ∷ wants_image shape s terms.kind terms.topic)
        tt (tt, all_wanted shape s terms.kind terms.topic)
    all_answered (leaves s) h = all_if (InBridgePut G R) (is_live shape s before) (ended shape before sofar s) [] (all_ended s) tt
    all_answered (opens i terms tag) h =
        all_if (InBridgePut G R) (list_any (opens_inbox i) before) []
        (to_queue terms.queue (q.Create (free_slot shape before sofar terms.queue) (Inbox i) make.Inbox tag) ∷ []) tt (tt, tt)
    all_answered (closes i) h = all_if (InBridgePut G R) (is_open shape i before) (ended_inbox shape before sofar i) [] (all_ended_inbox i) tt
    all_answered (asks i topic fids) h =
        all_if (InBridgePut G R) (is_open shape i before && not (is_settling shape before)) (to_first shape topic (p.Ask i fids)) []
        (all_first shape topic (p.Ask i fids) tt) tt
    all_answered (publishes r msg) h = all_flat (InBridgePut G R) (passed shape before sofar (publishes r msg)) (λ s. all_passed (publishes r msg) s h) (live_subs shape before)
    all_answered (images s msg) h = all_if (InBridgePut G R) (is_live shape s before) (passed shape before sofar (images s msg) s) [] (all_passed (images s msg) s h) tt
    all_answered (replies i body) h =
        all_if (InBridgePut G R) (is_open shape i before) (passed_reply shape before sofar (replies i body) i) [] (all_passed_reply (replies i body) i h) tt
    all_answered (wishes s sender) h =
        all_if (InBridgePut G R) (is_live shape s before && may_wish shape before sofar s sender (first_said (terms_in s) before)) (to_publisher (sender - 1) (p.Want s Recap) ∷ []) []
        (tt, tt) tt
    all_answered _ h = tt

    all_reaction : (e : BridgeEvent) → InEvent G R e → AllByRecursion (InBridgePut G R) (bridge_reaction shape before sofar e)
    all_reaction e h =
        reactions.all_reaction (InBridgePut G R) (record { settle = λ n. tt; publisher = λ n. tt; queue = λ k. tt; timers = tt }) shape before sofar e
        (all_flat (InBridgePut G R) (ended shape before sofar) all_ended (live_subs shape before))
        (all_flat (InBridgePut G R) (ended_inbox shape before sofar) all_ended_inbox (open_inboxes shape before))
        (all_answered e h)

  -- all that the bridge puts
  pub all_bridge_puts : (shape : Shape) (journal : List (ℕ × BridgeNote)) → AllByRecursion (λ (e : ℕ × BridgeNote). InBridgeNote G R e.1) journal
      → AllByRecursion (InBridgePut G R) (bridge_puts shape journal)
  all_bridge_puts shape journal all =
      all_puts_so_far (InEvent G R) (InBridgePut G R) (bridge_reaction shape) (λ before sofar e all so h. all_reaction shape before sofar all e h)
      [] [] (heard shape journal) tt tt (all_heard shape journal all)
