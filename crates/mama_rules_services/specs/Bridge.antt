-- believed: the bridge's rules, as functions of its journal: live objects and their links, the ending, and what each entry puts.
use Rattle.std.specs.Prelude.{ℕ, ◌+◌, ◌-◌, Bool, false, not, ◌&&◌, ◌==◌, nat_lt, List, [], ◌∷◌, ◌++◌, length, map, Option, None, Some, is_some, slice_index, position, nat_le, if◌then◌else◌}
use Rattle.std.specs.List.{list_any, flat_map}
use Rattle.mama_msg.specs.Field.{FieldData}
use Rattle.mama_journal.specs.Journal.{puts, all_puts, turns, count_of, first_said, all_below, numbers_below}
use Rattle.mama_link.specs.Link.{emit, rest}
use Rattle.mama_event.specs.declared.ids.SubId.{SubId}
use Rattle.mama_event.specs.declared.ids.InboxId.{InboxId}
use Rattle.mama_event.specs.declared.ids.ObjectId.{ObjectId}
use Rattle.mama_event.specs.declared.ids.ObjectId.TheVariants.{Sub, Inbox}
use Rattle.mama_event.specs.declared.market.MarketMsg.{MarketMsg}
use Rattle.mama_event.specs.declared.market.MsgKind.TheVariants.{Initial, Recap}
use Rattle.mama_event.specs.declared.market.SubKind.{SubKind}
use Rattle.mama_event.specs.declared.market.SubKind.TheVariants.{Market, Snapshot, Basic}
use Rattle.mama_event.specs.declared.to_bridge.SubTerms.{SubTerms}
use Rattle.mama_event.specs.declared.to_bridge.InboxTerms.{InboxTerms}
use Rattle.mama_event.specs.declared.shape.Shape.{Shape}
use Rattle.mama_link.specs.declared.faults.FaultRow.{FaultRow}
use Rattle.mama_event.specs.declared.to_queue.Make.{Make}
use Rattle.mama_event.specs.declared.to_queue.Make.TheVariants as make
use Rattle.mama_event.specs.declared.to_publisher.PublisherNote.{PublisherNote}
use Rattle.mama_event.specs.declared.to_publisher.PublisherNote.TheVariants as p
use Rattle.mama_event.specs.declared.to_timers.TimersNote.{TimersNote}
use Rattle.mama_event.specs.declared.to_timers.TimersNote.TheVariants as t
use Rattle.mama_event.specs.declared.to_queue.QueueNote.{QueueNote}
use Rattle.mama_event.specs.declared.to_queue.QueueNote.TheVariants as q
use Rattle.mama_event.specs.declared.to_bridge.BridgeNote.{BridgeNote}
use Rattle.mama_event.specs.declared.to_bridge.BridgeNote.TheVariants as b
use Rattle.mama_event.specs.Ports.{clients_of, publishers_of, queues_of}
use Rattle.mama_event.specs.Object.{same_sub, same_inbox}
use Rattle.mama_event.specs.Arrival.{Arrival, ReplyArrival, arriving, answering, cut_arrival, cut_reply}
use Rattle.mama_event.specs.Noted.{delivered_note, replied_note}
pub use Rattle.mama_rules_services.specs.Life.{lives, is_alive, newly, all_alive, window_of}
pub use Rattle.mama_rules_services.specs.Place.{created_by, at_place, slot_on, least_slot}
use Rattle.mama_rules_services.specs.Ports.{Putter, ByClient, ByPublisher, ByQueue, bridge_putter}

-- One entry of the bridge's journal by its meaning. An event that its kind of port never puts is no event.
pub data BridgeEvent : Type 0 where
  joins : SubId → SubTerms → ObjectId → BridgeEvent
  leaves : SubId → BridgeEvent
  opens : InboxId → InboxTerms → ObjectId → BridgeEvent
  closes : InboxId → BridgeEvent
  asks : InboxId → ℕ → List ℕ → BridgeEvent
  publishes : ℕ → MarketMsg → BridgeEvent
  images : SubId → MarketMsg → BridgeEvent
  replies : InboxId → List FieldData → BridgeEvent
  wishes : SubId → ℕ → BridgeEvent
  client_done : ℕ → BridgeEvent
  sends_done : ℕ → BridgeEvent
  settled : ℕ → BridgeEvent
  bye : ℕ → BridgeEvent
  no_event : BridgeEvent

-- what a client puts; it joins and opens only objects of its own
abbrev pub from_client : ℕ → BridgeNote → BridgeEvent
from_client c (b.Join sub terms tag) = if sub.client == c then joins sub terms tag else no_event
from_client c (b.Leave sub) = leaves sub
from_client c (b.OpenInbox inbox terms tag) = if inbox.client == c then opens inbox terms tag else no_event
from_client c (b.CloseInbox inbox) = closes inbox
from_client c (b.Ask inbox topic fids) = asks inbox topic fids
from_client c b.ClientDone = client_done c
from_client c _ = no_event

-- what a publisher puts
abbrev pub from_publisher : ℕ → BridgeNote → BridgeEvent
from_publisher p (b.Publish msg) = publishes p msg
from_publisher p (b.Image sub msg) = images sub msg
from_publisher p (b.Reply inbox body) = replies inbox body
from_publisher p b.SendsDone = sends_done p
from_publisher p b.Settled = settled p
from_publisher p _ = no_event

-- what a queue puts
abbrev pub from_queue : ℕ → BridgeNote → BridgeEvent
from_queue q (b.Leave sub) = leaves sub
from_queue q (b.CloseInbox inbox) = closes inbox
from_queue q (b.Ask inbox topic fids) = asks inbox topic fids
from_queue q (b.RecapWish sub sender) = wishes sub sender
from_queue q b.Bye = bye q
from_queue q _ = no_event

abbrev pub put_by : Putter → BridgeNote → BridgeEvent
put_by (ByClient c) note = from_client c note
put_by (ByPublisher p) note = from_publisher p note
put_by (ByQueue q) note = from_queue q note
put_by _ note = no_event

-- the bridge's journal by its meaning
abbrev pub heard : Shape → List (ℕ × BridgeNote) → List BridgeEvent
heard shape journal = map (λ e. put_by (bridge_putter shape e.0) e.1) journal

-- with what terms an event joins a subscription, or opens an inbox

abbrev pub terms_in : SubId → BridgeEvent → Option SubTerms
terms_in s (joins r terms tag) = if same_sub r s then Some terms else None
terms_in s _ = None

abbrev pub inbox_terms_in : InboxId → BridgeEvent → Option InboxTerms
inbox_terms_in i (opens j terms tag) = if same_inbox j i then Some terms else None
inbox_terms_in i _ = None

abbrev pub joins_sub : SubId → BridgeEvent → Bool
joins_sub s e = is_some (terms_in s e)

abbrev pub opens_inbox : InboxId → BridgeEvent → Bool
opens_inbox i e = is_some (inbox_terms_in i e)

abbrev pub leaves_sub : SubId → BridgeEvent → Bool
leaves_sub s (leaves r) = same_sub r s
leaves_sub s _ = false

abbrev pub closes_inbox : InboxId → BridgeEvent → Bool
closes_inbox i (closes j) = same_inbox j i
closes_inbox i _ = false

abbrev pub ends_client : ℕ → BridgeEvent → Bool
ends_client c (client_done d) = d == c
ends_client c _ = false

abbrev pub ends_sends : ℕ → BridgeEvent → Bool
ends_sends p (sends_done r) = r == p
ends_sends p _ = false

abbrev pub settles : ℕ → BridgeEvent → Bool
settles p (settled r) = r == p
settles p _ = false

abbrev pub ends_queue : ℕ → BridgeEvent → Bool
ends_queue k (bye r) = r == k
ends_queue k _ = false

-- THE ENDING

-- settling has begun: every client is done, and every publisher has sent all it has to send
abbrev pub is_settling : Shape → List BridgeEvent → Bool
is_settling shape es =
    all_below (clients_of shape) (λ c. list_any (ends_client c) es)
    && all_below (publishers_of shape) (λ p. list_any (ends_sends p) es)

-- the ending has come: settling has begun, and every publisher has settled
abbrev pub has_ending : Shape → List BridgeEvent → Bool
has_ending shape es = is_settling shape es && all_below (publishers_of shape) (λ p. list_any (settles p) es)

-- LIVE

-- a subscription is live from its first Join to its first later Leave or the ending
abbrev pub is_live : Shape → SubId → List BridgeEvent → Bool
is_live shape s es = is_alive (joins_sub s) (leaves_sub s) (has_ending shape) es

-- an inbox is open from its first opening to its first later closing or the ending
abbrev pub is_open : Shape → InboxId → List BridgeEvent → Bool
is_open shape i es = is_alive (opens_inbox i) (closes_inbox i) (has_ending shape) es

-- the subscription that an entry joins, if it is the first of its id
abbrev pub newly_joined : List BridgeEvent → BridgeEvent → List SubId
newly_joined before (joins s terms tag) = newly joins_sub before s
newly_joined before _ = []

abbrev pub newly_opened : List BridgeEvent → BridgeEvent → List InboxId
newly_opened before (opens i terms tag) = newly opens_inbox before i
newly_opened before _ = []

-- the live subscriptions in order of joining
abbrev pub live_subs : Shape → List BridgeEvent → List SubId
live_subs shape es = all_alive (is_live shape) newly_joined es

-- the open inboxes in order of opening
abbrev pub open_inboxes : Shape → List BridgeEvent → List InboxId
open_inboxes shape es = all_alive (is_open shape) newly_opened es

-- LINKS

-- what an entry sends into the link of a subscription on a topic: its topic's messages, and images for it
abbrev pub sent_to : Shape → SubId → ℕ → BridgeEvent → List MarketMsg
sent_to shape s topic (publishes p msg) = if slice_index shape.publisher_topics p == topic then msg ∷ [] else []
sent_to shape s topic (images r msg) = if same_sub r s then msg ∷ [] else []
sent_to shape s topic _ = []

abbrev pub sent_with : Shape → SubId → Option SubTerms → BridgeEvent → List MarketMsg
sent_with shape s None e = []
sent_with shape s (Some terms) e = sent_to shape s terms.topic e

-- the window of a subscription: what was sent into its link while it was live
abbrev pub window : Shape → SubId → List BridgeEvent → List MarketMsg
window shape s es = window_of (is_live shape s) (λ before e. sent_with shape s (first_said (terms_in s) before) e) es

abbrev pub replied_to : InboxId → BridgeEvent → List (List FieldData)
replied_to i (replies j body) = if same_inbox j i then body ∷ [] else []
replied_to i _ = []

-- what was sent into the link of an inbox while it was open
abbrev pub reply_window : Shape → InboxId → List BridgeEvent → List (List FieldData)
reply_window shape i es = window_of (is_open shape i) (λ before e. replied_to i e) es

abbrev pub faults_of : Option SubTerms → List FaultRow
faults_of None = []
faults_of (Some terms) = terms.faults

abbrev pub inbox_faults_of : Option InboxTerms → List FaultRow
inbox_faults_of None = []
inbox_faults_of (Some terms) = terms.faults

-- WHAT THE BRIDGE PUTS

-- where an event goes
pub data BridgePut : Type 0 where
  to_publisher : ℕ → PublisherNote → BridgePut
  to_queue : ℕ → QueueNote → BridgePut
  to_timers : TimersNote → BridgePut

-- the queue and the slot of an object, where a put is its Create
abbrev pub created_in : ObjectId → BridgePut → Option (ℕ × ℕ)
created_in o (to_queue queue note) = created_by o queue note
created_in o _ = None

-- where an object stands: its queue and its slot
abbrev pub place_of : ObjectId → List BridgePut → Option (ℕ × ℕ)
place_of o sofar = first_said (created_in o) sofar

-- an event to the queue of an object, which is told its slot
abbrev pub to_place : Option (ℕ × ℕ) → (ℕ → QueueNote) → List BridgePut
to_place place event = at_place to_queue place event

-- the objects that have a slot
abbrev pub live_objects : Shape → List BridgeEvent → List ObjectId
live_objects shape es = map (λ s. Sub s) (live_subs shape es) ++ map (λ i. Inbox i) (open_inboxes shape es)

-- the least slot of a queue that no live subscription or inbox has
abbrev pub free_slot : Shape → List BridgeEvent → List BridgePut → ℕ → ℕ
free_slot shape before sofar queue = least_slot (λ o. place_of o sofar) (live_objects shape before) queue

-- to the publisher of the topic with the lowest number, if there is one
abbrev pub to_found : Option ℕ → PublisherNote → List BridgePut
to_found None note = []
to_found (Some p) note = to_publisher p note ∷ []

abbrev pub to_first : Shape → ℕ → PublisherNote → List BridgePut
to_first shape topic note = to_found (position (λ t. t == topic) shape.publisher_topics) note

abbrev pub wants_image : Shape → SubId → SubKind → ℕ → List BridgePut
wants_image shape s Basic topic = []
wants_image shape s Market topic = to_first shape topic (p.Want s Initial)
wants_image shape s Snapshot topic = to_first shape topic (p.Want s Initial)

-- what arrives for a subscription, in its slot
abbrev pub delivered : SubId → List BridgePut → List Arrival → List BridgePut
delivered s sofar arrivals = flat_map (λ a. to_place (place_of (Sub s) sofar) (λ slot. delivered_note slot s a)) arrivals

abbrev pub replied : InboxId → List BridgePut → List ReplyArrival → List BridgePut
replied i sofar arrivals = flat_map (λ a. to_place (place_of (Inbox i) sofar) (λ slot. replied_note slot i a)) arrivals

abbrev pub gone : ObjectId → List BridgePut → List BridgePut
gone o sofar = to_place (place_of o sofar) (λ slot. q.Gone slot o)

-- what comes out of a link where some messages go in after those of the window
abbrev pub passed_on : {T : Type 0} → (ℕ → T → T) → List FaultRow → List T → List T → List T
passed_on cut rows window [] = []
passed_on cut rows window (m ∷ ms) = emit cut rows (window ++ m ∷ []) (length window + 1)

-- an entry's messages through the link of one live subscription
abbrev pub passed : Shape → List BridgeEvent → List BridgePut → BridgeEvent → SubId → List BridgePut
passed shape before sofar e s =
    let terms = first_said (terms_in s) before in
    delivered s sofar (passed_on cut_arrival (faults_of terms) (arriving (window shape s before)) (arriving (sent_with shape s terms e)))

abbrev pub passed_reply : Shape → List BridgeEvent → List BridgePut → BridgeEvent → InboxId → List BridgePut
passed_reply shape before sofar e i =
    let terms = first_said (inbox_terms_in i) before in
    replied i sofar (passed_on cut_reply (inbox_faults_of terms) (answering (reply_window shape i before)) (answering (replied_to i e)))

-- the end of a live subscription: what its link still holds, and then its notice
abbrev pub ended : Shape → List BridgeEvent → List BridgePut → SubId → List BridgePut
ended shape before sofar s =
    delivered s sofar (rest (faults_of (first_said (terms_in s) before)) (arriving (window shape s before))) ++ gone (Sub s) sofar

abbrev pub ended_inbox : Shape → List BridgeEvent → List BridgePut → InboxId → List BridgePut
ended_inbox shape before sofar i =
    replied i sofar (rest (inbox_faults_of (first_said (inbox_terms_in i) before)) (answering (reply_window shape i before))) ++ gone (Inbox i) sofar

-- how many recap wishes of a subscription were forwarded
abbrev pub is_recap_want : SubId → BridgePut → Bool
is_recap_want s (to_publisher r (p.Want u Recap)) = same_sub u s
is_recap_want s _ = false

-- a wish is forwarded to a publisher of the system, before settling, and as often as the terms allow
abbrev pub may_wish : Shape → List BridgeEvent → List BridgePut → SubId → ℕ → Option SubTerms → Bool
may_wish shape before sofar s sender None = false
may_wish shape before sofar s sender (Some terms) =
    not (is_settling shape before) && (nat_lt 0 sender && (nat_le sender (publishers_of shape) && nat_lt (count_of (is_recap_want s) sofar) terms.recaps))

-- the reaction to one event, but for settling and the ending
abbrev pub answer : Shape → List BridgeEvent → List BridgePut → BridgeEvent → List BridgePut
answer shape before sofar (joins s terms tag) =
    if list_any (joins_sub s) before then []
    else to_queue terms.queue (q.Create (free_slot shape before sofar terms.queue) (Sub s) (make.Sub terms.kind terms.cache shape.strategy) tag) ∷ wants_image shape s terms.kind terms.topic
answer shape before sofar (leaves s) = if is_live shape s before then ended shape before sofar s else []
answer shape before sofar (opens i terms tag) =
    if list_any (opens_inbox i) before then []
    else to_queue terms.queue (q.Create (free_slot shape before sofar terms.queue) (Inbox i) make.Inbox tag) ∷ []
answer shape before sofar (closes i) = if is_open shape i before then ended_inbox shape before sofar i else []
answer shape before sofar (asks i topic fids) =
    if is_open shape i before && not (is_settling shape before) then to_first shape topic (p.Ask i fids) else []
answer shape before sofar (publishes p msg) = flat_map (passed shape before sofar (publishes p msg)) (live_subs shape before)
answer shape before sofar (images s msg) = if is_live shape s before then passed shape before sofar (images s msg) s else []
answer shape before sofar (replies i body) = if is_open shape i before then passed_reply shape before sofar (replies i body) i else []
answer shape before sofar (wishes s sender) =
    if is_live shape s before && may_wish shape before sofar s sender (first_said (terms_in s) before)
    then to_publisher (sender - 1) (p.Want s Recap) ∷ [] else []
answer shape before sofar _ = []

-- the entry at which settling begins asks every publisher to settle
abbrev pub settle_begins : Shape → List BridgeEvent → BridgeEvent → List BridgePut
settle_begins shape before e =
    if turns (is_settling shape) before e then map (λ r. to_publisher r p.Settle) (numbers_below (publishers_of shape)) else []

-- the entry at which the ending comes ends every live link, subscriptions first, and then says Fin to all
abbrev pub ending_comes : Shape → List BridgeEvent → List BridgePut → BridgeEvent → List BridgePut
ending_comes shape before sofar e =
    if turns (has_ending shape) before e then
    flat_map (ended shape before sofar) (live_subs shape before)
    ++ flat_map (ended_inbox shape before sofar) (open_inboxes shape before)
    ++ to_timers t.Fin ∷ []
    ++ map (λ k. to_queue k q.Fin) (numbers_below (queues_of shape))
    ++ map (λ r. to_publisher r p.Fin) (numbers_below (publishers_of shape))
    else []

-- what the bridge puts at an event, given the events before it and what they put
abbrev pub bridge_reaction : Shape → List BridgeEvent → List BridgePut → BridgeEvent → List BridgePut
bridge_reaction shape before sofar e =
    answer shape before sofar e ++ settle_begins shape before e ++ ending_comes shape before sofar e

-- all that the bridge puts by a journal
abbrev pub bridge_puts : Shape → List (ℕ × BridgeNote) → List BridgePut
bridge_puts shape journal = all_puts (bridge_reaction shape) (heard shape journal)

-- what the bridge puts at an entry, given its journal before it
abbrev pub bridge_puts_at : Shape → List (ℕ × BridgeNote) → ℕ × BridgeNote → List BridgePut
bridge_puts_at shape before e =
    bridge_reaction shape (heard shape before) (bridge_puts shape before) (put_by (bridge_putter shape e.0) e.1)
