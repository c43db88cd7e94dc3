-- What the bridge puts for a subscription on a topic: whatever holds of the messages that are sent to it holds of those
-- that are passed on, and what holds of each sender of which a recap is wished, and of the first publisher of the topic,
-- holds of each publisher that is asked for an image. No update is ever asked for.
use Rattle.std.specs.Prelude.{◌-◌, ◌&&◌, not, position, slice_index, if◌then◌else◌, Option, None, Some, Ok, Err}
use Rattle.std.specs.List.{AllByRecursion, list_any}
use Rattle.std.specs.Option.{option_or}
use Rattle.std.proofs.Common.{◌≡◌, ℕ, ◌==◌, true, false, List, [], ◌∷◌, refl, sym, subst}
use Rattle.std.proofs.lemmas.Bool.Decides.{Decides-eqb}
use Rattle.mama_journal.specs.Journal.{all_puts, first_said}
use Rattle.mama_link.specs.Link.{rest}
use Rattle.mama_link.specs.declared.faults.FaultRow.{FaultRow}
use Rattle.mama_event.specs.Object.{same_sub}
use Rattle.mama_event.specs.declared.ids.SubId.{SubId}
use Rattle.mama_event.specs.declared.ids.InboxId.{InboxId}
use Rattle.mama_event.specs.declared.ids.ObjectId.{ObjectId}
use Rattle.mama_event.specs.declared.ids.ObjectId.TheVariants.{Sub, Inbox}
use Rattle.mama_event.specs.declared.shape.Shape.{Shape}
use Rattle.mama_event.specs.Arrival.{Arrival, ReplyArrival, arriving, answering, cut_arrival, cut_reply}
use Rattle.mama_event.specs.Noted.{delivered_note, replied_note}
use Rattle.mama_event.specs.declared.market.MarketMsg.{MarketMsg}
use Rattle.mama_event.specs.declared.market.MsgKind.TheVariants.{Initial, Recap}
use Rattle.mama_event.specs.declared.market.SubKind.{SubKind}
use Rattle.mama_event.specs.declared.market.SubKind.TheVariants.{Market, Snapshot, Basic}
use Rattle.mama_event.specs.declared.to_bridge.SubTerms.{SubTerms}
use Rattle.mama_event.specs.declared.to_queue.QueueNote.{QueueNote}
use Rattle.mama_event.specs.declared.to_queue.QueueNote.TheVariants as q
use Rattle.mama_event.specs.declared.to_publisher.PublisherNote.{PublisherNote}
use Rattle.mama_event.specs.declared.to_publisher.PublisherNote.TheVariants as p
use Rattle.mama_event.specs.declared.to_queue.Make.TheVariants as make
use Rattle.mama_dq.specs.Table.{is_update}
use Rattle.mama_rules_services.specs.Bridge.{BridgeEvent, joins, leaves, opens, closes, asks, publishes, images, replies, wishes, client_done, sends_done, settled, bye, no_event, terms_in, is_live, live_subs, open_inboxes, sent_to, sent_with, window, faults_of, inbox_faults_of, inbox_terms_in, reply_window, replied_to, joins_sub, opens_inbox, is_open, is_settling, free_slot, may_wish, BridgePut, to_publisher, to_queue, to_timers, place_of, to_place, to_found, to_first, wants_image, delivered, replied, gone, passed_on, passed, passed_reply, ended, ended_inbox, answer, bridge_reaction}
use Rattle.mama_laws_legal.proofs.Lives.{same_sub-is}
use Rattle.mama_laws_genuine.proofs.Elements.{all_append, all_if, all_flat_map, all_flat, all_puts_known, all_puts_so_far, all_each}
use Rattle.mama_laws_genuine.proofs.Reactions as reactions
use Rattle.mama_laws_genuine.proofs.Linked.{all_passed_on, all_rest}
use Rattle.mama_laws_genuine.proofs.Arrived.{Comes, comes_cut, all_coming}
use Rattle.mama_laws_genuine.proofs.Wishing.{Brings}

-- a publisher that is asked for an image of the subscription is such, and no publisher is asked for an update
abbrev pub Wants : SubId → (ℕ → Type 0) → ℕ → PublisherNote → Type 0
Wants s Asked n (p.Want sub kind) = (is_update kind ≡ false) × (same_sub sub s ≡ true → Asked n)
Wants s Asked n (p.Ask inbox fids) = Unit {0}
Wants s Asked n p.Settle = Unit {0}
Wants s Asked n p.Fin = Unit {0}

module _ (shape : Shape) (s : SubId) (wanted : ℕ) (Mine : MarketMsg → Type 0) (Wished Asked : ℕ → Type 0)
    (first : (n : ℕ) → position (λ (topic : ℕ). topic == wanted) shape.publisher_topics ≡ Some n → Asked n)
    (asked : (sender : ℕ) → Wished sender → Asked (sender - 1)) where
  -- the event joins the subscription on the topic alone, and what it brings or wishes is such
  abbrev pub Feeds : BridgeEvent → Type 0
  Feeds (joins sub terms tag) = same_sub sub s ≡ true → terms.topic ≡ wanted
  Feeds (leaves sub) = Unit {0}
  Feeds (opens i terms tag) = Unit {0}
  Feeds (closes i) = Unit {0}
  Feeds (asks i topic fids) = Unit {0}
  Feeds (publishes n msg) = slice_index shape.publisher_topics n ≡ wanted → Mine msg
  Feeds (images sub msg) = same_sub sub s ≡ true → Mine msg
  Feeds (replies i body) = Unit {0}
  Feeds (wishes sub sender) = same_sub sub s ≡ true → Wished sender
  Feeds (client_done c) = Unit {0}
  Feeds (sends_done n) = Unit {0}
  Feeds (settled n) = Unit {0}
  Feeds (bye k) = Unit {0}
  Feeds no_event = Unit {0}

  abbrev pub InPut : BridgePut → Type 0
  InPut (to_publisher n note) = Wants s Asked n note
  InPut (to_queue k note) = Brings s Mine note
  InPut (to_timers note) = Unit {0}

  -- ---- what goes into the link

  all_sent_to : (e : BridgeEvent) → Feeds e → AllByRecursion Mine (sent_to shape s wanted e)
  all_sent_to (publishes n msg) h =
      (elim (slice_index shape.publisher_topics n == wanted) as (λ c. (slice_index shape.publisher_topics n == wanted) ≡ c → AllByRecursion Mine (if c then msg ∷ [] else [])) [
        | true ↦ λ same. (h ((Decides-eqb (slice_index shape.publisher_topics n) wanted).0 same), tt)
        | false ↦ λ other. tt
      ]) refl
  all_sent_to (images sub msg) h =
      (elim (same_sub sub s) as (λ c. same_sub sub s ≡ c → AllByRecursion Mine (if c then msg ∷ [] else [])) [
        | true ↦ λ same. (h same, tt)
        | false ↦ λ other. tt
      ]) refl
  all_sent_to _ h = tt

  abbrev OnTopic : Option SubTerms → Type 0
  OnTopic None = Unit {0}
  OnTopic (Some terms) = terms.topic ≡ wanted

  term_topic : (e : BridgeEvent) → Feeds e → OnTopic (terms_in s e)
  term_topic (joins sub terms tag) h =
      (elim (same_sub sub s) as (λ c. same_sub sub s ≡ c → OnTopic (if c then Some terms else None)) [
        | true ↦ λ same. h same
        | false ↦ λ other. tt
      ]) refl
  term_topic _ h = tt

  or_topic : (one two : Option SubTerms) → OnTopic one → OnTopic two → OnTopic (option_or one two)
  or_topic None two h k = k
  or_topic (Some terms) two h k = h

  said_topic : (es : List BridgeEvent) → AllByRecursion Feeds es → OnTopic (first_said (terms_in s) es)
  said_topic [] all = tt
  said_topic (e ∷ es) all = or_topic (terms_in s e) (first_said (terms_in s) es) (term_topic e all.0) (said_topic es all.1)

  all_sent_with : (terms : Option SubTerms) → OnTopic terms → (e : BridgeEvent) → Feeds e → AllByRecursion Mine (sent_with shape s terms e)
  all_sent_with None on e h = tt
  all_sent_with (Some terms) on e h = subst (λ (topic : ℕ). AllByRecursion Mine (sent_to shape s topic e)) (sym on) (all_sent_to e h)

  all_sent : (before : List BridgeEvent) (e : BridgeEvent) → AllByRecursion Feeds before → Feeds e → AllByRecursion Mine (sent_with shape s (first_said (terms_in s) before) e)
  all_sent before e all h = all_sent_with (first_said (terms_in s) before) (said_topic before all) e h

  all_window : (es : List BridgeEvent) → AllByRecursion Feeds es → AllByRecursion Mine (window shape s es)
  all_window es all =
      all_puts_known Feeds Mine (λ (before : List BridgeEvent) (e : BridgeEvent). if is_live shape s before then sent_with shape s (first_said (terms_in s) before) e else [])
      (λ before e so h. all_if Mine (is_live shape s before) (sent_with shape s (first_said (terms_in s) before) e) [] (all_sent before e so h) tt) [] es tt all

  -- ---- what the bridge puts

  placed : (place : Option (ℕ × ℕ)) (event : ℕ → QueueNote) → ((slot : ℕ) → Brings s Mine (event slot)) → AllByRecursion InPut (to_place place event)
  placed None event h = tt
  placed (Some place) event h = (h place.1, tt)

  one_delivered : (sub : SubId) (sofar : List BridgePut) (arrival : Arrival) → (same_sub sub s ≡ true → Comes Mine arrival)
      → AllByRecursion InPut (to_place (place_of (Sub sub) sofar) (λ slot. delivered_note slot sub arrival))
  one_delivered sub sofar (Ok m) h = placed (place_of (Sub sub) sofar) (λ slot. q.Deliver slot sub m) (λ slot. h)
  one_delivered sub sofar (Err piece) h = placed (place_of (Sub sub) sofar) (λ slot. q.Bad slot sub piece.kind piece.sender piece.seq piece.body) (λ slot. tt)

  all_delivered : (sub : SubId) (sofar : List BridgePut) (arrivals : List Arrival) → (same_sub sub s ≡ true → AllByRecursion (Comes Mine) arrivals)
      → AllByRecursion InPut (delivered sub sofar arrivals)
  all_delivered sub sofar arrivals all =
      all_flat_map (λ (a : Arrival). same_sub sub s ≡ true → Comes Mine a) InPut (λ (a : Arrival). to_place (place_of (Sub sub) sofar) (λ slot. delivered_note slot sub a))
      (one_delivered sub sofar) arrivals (all_each (same_sub sub s ≡ true) (λ same. Comes Mine) arrivals all)

  one_replied : (i : InboxId) (sofar : List BridgePut) (arrival : ReplyArrival) → AllByRecursion InPut (to_place (place_of (Inbox i) sofar) (λ slot. replied_note slot i arrival))
  one_replied i sofar (Ok body) = placed (place_of (Inbox i) sofar) (λ slot. q.Reply slot i body) (λ slot. tt)
  one_replied i sofar (Err bytes) = placed (place_of (Inbox i) sofar) (λ slot. q.BadReply slot i bytes) (λ slot. tt)

  all_replied : (i : InboxId) (sofar : List BridgePut) (arrivals : List ReplyArrival) → AllByRecursion InPut (replied i sofar arrivals)
  all_replied i sofar arrivals =
      all_flat InPut (λ (a : ReplyArrival). to_place (place_of (Inbox i) sofar) (λ slot. replied_note slot i a)) (one_replied i sofar) arrivals

  all_gone : (o : ObjectId) (sofar : List BridgePut) → AllByRecursion InPut (gone o sofar)
  all_gone o sofar = placed (place_of o sofar) (λ slot. q.Gone slot o) (λ slot. tt)

  all_found : (found : Option ℕ) (note : PublisherNote) → ((n : ℕ) → found ≡ Some n → Wants s Asked n note) → AllByRecursion InPut (to_found found note)
  all_found None note h = tt
  all_found (Some n) note h = (h n refl, tt)

  -- a subscription asks the first publisher of its topic for its first image
  wants_first : (topic : ℕ) (sub : SubId) → (same_sub sub s ≡ true → topic ≡ wanted) → AllByRecursion InPut (to_first shape topic (p.Want sub Initial))
  wants_first topic sub on =
      all_found (position (λ (n : ℕ). n == topic) shape.publisher_topics) (p.Want sub Initial)
      (λ n found. (refl, λ same. first n (subst (λ (wished : ℕ). position (λ (m : ℕ). m == wished) shape.publisher_topics ≡ Some n) (on same) found)))

  all_wanted : (sub : SubId) (kind : SubKind) (topic : ℕ) → (same_sub sub s ≡ true → topic ≡ wanted) → AllByRecursion InPut (wants_image shape sub kind topic)
  all_wanted sub Basic topic on = tt
  all_wanted sub Market topic on = wants_first topic sub on
  all_wanted sub Snapshot topic on = wants_first topic sub on

  module _ (before : List BridgeEvent) (sofar : List BridgePut) (all : AllByRecursion Feeds before) where
    abbrev faults : SubId → List FaultRow
    faults sub = faults_of (first_said (terms_in sub) before)

    coming_window : AllByRecursion (Comes Mine) (arriving (window shape s before))
    coming_window = all_coming Mine (window shape s before) (all_window before all)

    all_passed : (e : BridgeEvent) (sub : SubId) → Feeds e → AllByRecursion InPut (passed shape before sofar e sub)
    all_passed e sub h =
        all_delivered sub sofar (passed_on cut_arrival (faults sub) (arriving (window shape sub before)) (arriving (sent_with shape sub (first_said (terms_in sub) before) e)))
        (λ same. subst (λ (x : SubId). AllByRecursion (Comes Mine) (passed_on cut_arrival (faults x) (arriving (window shape x before)) (arriving (sent_with shape x (first_said (terms_in x) before) e))))
        (sym (same_sub-is sub s same))
        (all_passed_on (Comes Mine) cut_arrival (comes_cut Mine) (faults s) (arriving (window shape s before)) (arriving (sent_with shape s (first_said (terms_in s) before) e))
        coming_window (all_coming Mine (sent_with shape s (first_said (terms_in s) before) e) (all_sent before e all h))))

    all_ended : (sub : SubId) → AllByRecursion InPut (ended shape before sofar sub)
    all_ended sub =
        all_append InPut (delivered sub sofar (rest (faults sub) (arriving (window shape sub before)))) (gone (Sub sub) sofar)
        (all_delivered sub sofar (rest (faults sub) (arriving (window shape sub before)))
        (λ same. subst (λ (x : SubId). AllByRecursion (Comes Mine) (rest (faults x) (arriving (window shape x before)))) (sym (same_sub-is sub s same))
        (all_rest (Comes Mine) cut_arrival (comes_cut Mine) (faults s) (arriving (window shape s before)) coming_window)))
        (all_gone (Sub sub) sofar)

    all_ended_inbox : (i : InboxId) → AllByRecursion InPut (ended_inbox shape before sofar i)
    all_ended_inbox i =
        let arrivals : List ReplyArrival = rest (inbox_faults_of (first_said (inbox_terms_in i) before)) (answering (reply_window shape i before)) in
        all_append InPut (replied i sofar arrivals) (gone (Inbox i) sofar) (all_replied i sofar arrivals) (all_gone (Inbox i) sofar)

    all_answered : (e : BridgeEvent) → Feeds e → AllByRecursion InPut (answer shape before sofar e)
    all_answered (joins sub terms tag) h =
        all_if InPut (list_any (joins_sub sub) before) []
        (to_queue terms.queue (q.Create (free_slot shape before sofar terms.queue) (Sub sub) (make.Sub terms.kind terms.cache shape.strategy) tag) ∷ wants_image shape sub terms.kind terms.topic)
        tt (tt, all_wanted sub terms.kind terms.topic h)
    all_answered (leaves sub) h = all_if InPut (is_live shape sub before) (ended shape before sofar sub) [] (all_ended sub) tt
    all_answered (opens i terms tag) h =
        all_if InPut (list_any (opens_inbox i) before) []
        (to_queue terms.queue (q.Create (free_slot shape before sofar terms.queue) (Inbox i) make.Inbox tag) ∷ []) tt (tt, tt)
    all_answered (closes i) h = all_if InPut (is_open shape i before) (ended_inbox shape before sofar i) [] (all_ended_inbox i) tt
    all_answered (asks i topic fids) h =
        all_if InPut (is_open shape i before && not (is_settling shape before)) (to_first shape topic (p.Ask i fids)) []
        (all_found (position (λ (n : ℕ). n == topic) shape.publisher_topics) (p.Ask i fids) (λ n found. tt)) tt
    all_answered (publishes n msg) h = all_flat InPut (passed shape before sofar (publishes n msg)) (λ sub. all_passed (publishes n msg) sub h) (live_subs shape before)
    all_answered (images sub msg) h = all_if InPut (is_live shape sub before) (passed shape before sofar (images sub msg) sub) [] (all_passed (images sub msg) sub h) tt
    all_answered (replies i body) h =
        all_if InPut (is_open shape i before) (passed_reply shape before sofar (replies i body) i) []
        (all_replied i sofar (passed_on cut_reply (inbox_faults_of (first_said (inbox_terms_in i) before)) (answering (reply_window shape i before)) (answering (replied_to i (replies i body))))) tt
    all_answered (wishes sub sender) h =
        all_if InPut (is_live shape sub before && may_wish shape before sofar sub sender (first_said (terms_in sub) before)) (to_publisher (sender - 1) (p.Want sub Recap) ∷ []) []
        ((refl, λ same. asked sender (h same)), tt) tt
    all_answered _ h = tt

    all_reaction : (e : BridgeEvent) → Feeds e → AllByRecursion InPut (bridge_reaction shape before sofar e)
    all_reaction e h =
        reactions.all_reaction InPut (record { settle = λ n. tt; publisher = λ n. tt; queue = λ k. tt; timers = tt }) shape before sofar e
        (all_flat InPut (ended shape before sofar) all_ended (live_subs shape before))
        (all_flat InPut (ended_inbox shape before sofar) all_ended_inbox (open_inboxes shape before))
        (all_answered e h)

  -- all that the bridge puts
  pub all_fed : (es : List BridgeEvent) → AllByRecursion Feeds es → AllByRecursion InPut (all_puts (bridge_reaction shape) es)
  all_fed es all = all_puts_so_far Feeds InPut (bridge_reaction shape) (λ before sofar e so puts h. all_reaction before sofar so e h) [] [] es tt tt all
