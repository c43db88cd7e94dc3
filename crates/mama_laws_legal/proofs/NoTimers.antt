-- The bridge puts nothing for a timer.
use Rattle.std.specs.Prelude.{not, position, Option, None, Some, ◌-◌}
use Rattle.std.specs.List.{flat_map, list_any}
use Rattle.std.proofs.Common.{◌≡◌, ℕ, ◌==◌, Bool, true, false, ◌&&◌, cond, List, [], ◌∷◌, ◌++◌, refl, ◌∙◌, ap}
use Rattle.mama_journal.specs.Journal.{all_puts, turns, first_said}
use Rattle.mama_link.specs.Link.{rest}
use Rattle.mama_event.specs.Arrival.{Arrival, ReplyArrival, arriving, answering, cut_arrival, cut_reply}
use Rattle.mama_event.specs.Noted.{delivered_note, replied_note}
use Rattle.mama_event.specs.declared.ids.SubId.{SubId}
use Rattle.mama_event.specs.declared.ids.InboxId.{InboxId}
use Rattle.mama_event.specs.declared.ids.TimerId.{TimerId}
use Rattle.mama_event.specs.declared.ids.ObjectId.{ObjectId}
use Rattle.mama_event.specs.declared.ids.ObjectId.TheVariants.{Sub, Timer, Inbox}
use Rattle.mama_event.specs.declared.market.MsgKind.TheVariants.{Initial, Recap}
use Rattle.mama_event.specs.declared.market.SubKind.{SubKind}
use Rattle.mama_event.specs.declared.market.SubKind.TheVariants.{Market, Snapshot, Basic}
use Rattle.mama_event.specs.declared.shape.Shape.{Shape}
use Rattle.mama_event.specs.declared.to_publisher.PublisherNote.{PublisherNote}
use Rattle.mama_event.specs.declared.to_publisher.PublisherNote.TheVariants as p
use Rattle.mama_event.specs.declared.to_queue.Make.TheVariants as make
use Rattle.mama_event.specs.declared.to_queue.QueueNote.{QueueNote}
use Rattle.mama_event.specs.declared.to_queue.QueueNote.TheVariants as q
use Rattle.mama_rules_services.specs.Bridge.{BridgeEvent, joins, leaves, opens, closes, asks, publishes, images, replies, wishes, client_done, sends_done, settled, bye, no_event, BridgePut, to_publisher, to_queue, is_settling, has_ending, is_live, is_open, terms_in, inbox_terms_in, joins_sub, opens_inbox, live_subs, open_inboxes, sent_with, window, reply_window, replied_to, faults_of, inbox_faults_of, place_of, free_slot, to_found, to_first, wants_image, delivered, replied, gone, passed_on, passed, passed_reply, ended, ended_inbox, may_wish, answer, bridge_reaction}
use Rattle.mama_rules_legal.specs.Streams.{stream_of}
use Rattle.mama_laws_legal.proofs.BridgeStreams.{stream_flat, none_cond, none_unless, none_append, delivered_of, replied_of, items_other, gone_other, reaction_of}
use Rattle.mama_journal.specs.EntryLaws.{by_entries, all_puts-push}

module _ (timer : TimerId) where
  abbrev o : ObjectId
  o = Timer timer

  delivered_none : (s : SubId) (sofar : List BridgePut) (arrivals : List Arrival) → stream_of (Timer timer) (delivered s sofar arrivals) ≡ []
  delivered_none s sofar arrivals = items_other o (place_of (Sub s) sofar) (λ slot a. delivered_note slot s a) arrivals (λ slot a. delivered_of o slot s a)

  replied_none : (i : InboxId) (sofar : List BridgePut) (arrivals : List ReplyArrival) → stream_of (Timer timer) (replied i sofar arrivals) ≡ []
  replied_none i sofar arrivals = items_other o (place_of (Inbox i) sofar) (λ slot a. replied_note slot i a) arrivals (λ slot a. replied_of o slot i a)

  ended_none : (shape : Shape) (es : List BridgeEvent) (sofar : List BridgePut) (s : SubId) → stream_of (Timer timer) (ended shape es sofar s) ≡ []
  ended_none shape es sofar s =
      let held : List Arrival = rest (faults_of (first_said (terms_in s) es)) (arriving (window shape s es)) in
      none_append o (delivered s sofar held) (gone (Sub s) sofar) (delivered_none s sofar held) (gone_other o (Sub s) sofar refl)

  ended_inbox_none : (shape : Shape) (es : List BridgeEvent) (sofar : List BridgePut) (i : InboxId) → stream_of (Timer timer) (ended_inbox shape es sofar i) ≡ []
  ended_inbox_none shape es sofar i =
      let held : List ReplyArrival = rest (inbox_faults_of (first_said (inbox_terms_in i) es)) (answering (reply_window shape i es)) in
      none_append o (replied i sofar held) (gone (Inbox i) sofar) (replied_none i sofar held) (gone_other o (Inbox i) sofar refl)

  passed_none : (shape : Shape) (es : List BridgeEvent) (sofar : List BridgePut) (e : BridgeEvent) (s : SubId) → stream_of (Timer timer) (passed shape es sofar e s) ≡ []
  passed_none shape es sofar e s =
      let terms = first_said (terms_in s) es in
      delivered_none s sofar (passed_on cut_arrival (faults_of terms) (arriving (window shape s es)) (arriving (sent_with shape s terms e)))

  first_none : (shape : Shape) (topic : ℕ) (note : PublisherNote) → stream_of (Timer timer) (to_first shape topic note) ≡ []
  first_none shape topic note = found (position (λ t. t == topic) shape.publisher_topics)
    where
      found : (o : Option ℕ) → stream_of (Timer timer) (to_found o note) ≡ []
      found None = refl
      found (Some r) = refl

  wants_none : (shape : Shape) (s : SubId) (kind : SubKind) (topic : ℕ) → stream_of (Timer timer) (wants_image shape s kind topic) ≡ []
  wants_none shape s Basic topic = refl
  wants_none shape s Market topic = first_none shape topic (p.Want s Initial)
  wants_none shape s Snapshot topic = first_none shape topic (p.Want s Initial)

  answer_none : (shape : Shape) (es : List BridgeEvent) (sofar : List BridgePut) (e : BridgeEvent) → stream_of (Timer timer) (answer shape es sofar e) ≡ []
  answer_none shape es sofar (joins s terms tag) =
      none_unless o (list_any (joins_sub s) es) (to_queue terms.queue (q.Create (free_slot shape es sofar terms.queue) (Sub s) (make.Sub terms.kind terms.cache shape.strategy) tag) ∷ wants_image shape s terms.kind terms.topic)
      (wants_none shape s terms.kind terms.topic)
  answer_none shape es sofar (leaves s) = none_cond o (is_live shape s es) (ended shape es sofar s) (ended_none shape es sofar s)
  answer_none shape es sofar (opens i terms tag) = none_unless o (list_any (opens_inbox i) es) (to_queue terms.queue (q.Create (free_slot shape es sofar terms.queue) (Inbox i) make.Inbox tag) ∷ []) refl
  answer_none shape es sofar (closes i) = none_cond o (is_open shape i es) (ended_inbox shape es sofar i) (ended_inbox_none shape es sofar i)
  answer_none shape es sofar (asks i topic fids) = none_cond o (is_open shape i es && not (is_settling shape es)) (to_first shape topic (p.Ask i fids)) (first_none shape topic (p.Ask i fids))
  answer_none shape es sofar (publishes r msg) = stream_flat o (passed shape es sofar (publishes r msg)) (live_subs shape es) (passed_none shape es sofar (publishes r msg))
  answer_none shape es sofar (images s msg) = none_cond o (is_live shape s es) (passed shape es sofar (images s msg) s) (passed_none shape es sofar (images s msg) s)
  answer_none shape es sofar (replies i body) =
      let terms = first_said (inbox_terms_in i) es in
      none_cond o (is_open shape i es) (passed_reply shape es sofar (replies i body) i) (replied_none i sofar (passed_on cut_reply (inbox_faults_of terms) (answering (reply_window shape i es)) (answering (replied_to i (replies i body)))))
  answer_none shape es sofar (wishes s sender) = none_cond o (is_live shape s es && may_wish shape es sofar s sender (first_said (terms_in s) es)) (to_publisher (sender - 1) (p.Want s Recap) ∷ []) refl
  answer_none shape es sofar (client_done c) = refl
  answer_none shape es sofar (sends_done r) = refl
  answer_none shape es sofar (settled r) = refl
  answer_none shape es sofar (bye k) = refl
  answer_none shape es sofar no_event = refl

  reaction_none : (shape : Shape) (es : List BridgeEvent) (sofar : List BridgePut) (e : BridgeEvent) → stream_of o (bridge_reaction shape es sofar e) ≡ []
  reaction_none shape es sofar e =
      reaction_of shape o es sofar e []
      (ap (λ (ws : List (ℕ × QueueNote)). ws ++ stream_of o (flat_map (ended_inbox shape es sofar) (open_inboxes shape es))) (stream_flat o (ended shape es sofar) (live_subs shape es) (ended_none shape es sofar))
      ∙ stream_flat o (ended_inbox shape es sofar) (open_inboxes shape es) (ended_inbox_none shape es sofar))
      ∙ ap (λ (ws : List (ℕ × QueueNote)). ws ++ cond {A = List (ℕ × QueueNote)} (turns (has_ending shape) es e) [] []) (answer_none shape es sofar e) ∙ either (turns (has_ending shape) es e)
    where
      either : (b : Bool) → cond {A = List (ℕ × QueueNote)} b [] [] ≡ []
      either true = refl
      either false = refl

  pub bridge_none : (shape : Shape) (es : List BridgeEvent) → stream_of (Timer timer) (all_puts (bridge_reaction shape) es) ≡ []
  bridge_none shape es = by_entries (λ (xs : List BridgeEvent). stream_of (Timer timer) (all_puts (bridge_reaction shape) xs) ≡ []) refl
      (λ xs e ih.
      let sofar = all_puts (bridge_reaction shape) xs in
      ap (stream_of o) (all_puts-push (bridge_reaction shape) xs e) ∙ none_append o sofar (bridge_reaction shape xs sofar e) ih (reaction_none shape xs sofar e)) es
