-- What one entry of the bridge puts for an inbox.
use Rattle.std.specs.Prelude.{not, position, Option, None, Some, is_some, ◌-◌}
use Rattle.std.specs.List.{flat_map, list_any}
use Rattle.std.proofs.Common.{◌≡◌, ℕ, ◌==◌, Bool, true, false, ◌&&◌, cond, List, [], ◌∷◌, ◌++◌, refl, sym, ◌∙◌, ap}
use Rattle.std.proofs.lemmas.Bool.{both_ways}
use Rattle.mama_journal.specs.Journal.{turns, first_said}
use Rattle.mama_msg.specs.Field.{FieldData}
use Rattle.mama_link.specs.Link.{rest}
use Rattle.mama_event.specs.Arrival.{Arrival, ReplyArrival, arriving, answering, cut_arrival, cut_reply}
use Rattle.mama_event.specs.Noted.{delivered_note, replied_note}
use Rattle.mama_event.specs.declared.ids.SubId.{SubId}
use Rattle.mama_event.specs.declared.ids.InboxId.{InboxId}
use Rattle.mama_event.specs.declared.ids.ObjectId.{ObjectId}
use Rattle.mama_event.specs.declared.ids.ObjectId.TheVariants.{Sub, Inbox}
use Rattle.mama_event.specs.declared.market.MsgKind.TheVariants.{Initial, Recap}
use Rattle.mama_event.specs.declared.market.SubKind.{SubKind}
use Rattle.mama_event.specs.declared.market.SubKind.TheVariants.{Market, Snapshot, Basic}
use Rattle.mama_event.specs.declared.shape.Shape.{Shape}
use Rattle.mama_event.specs.declared.to_bridge.InboxTerms.{InboxTerms}
use Rattle.mama_event.specs.declared.to_publisher.PublisherNote.{PublisherNote}
use Rattle.mama_event.specs.declared.to_publisher.PublisherNote.TheVariants as p
use Rattle.mama_event.specs.declared.to_queue.Make.TheVariants as make
use Rattle.mama_event.specs.declared.to_queue.QueueNote.{QueueNote}
use Rattle.mama_event.specs.declared.to_queue.QueueNote.TheVariants as q
use Rattle.mama_event.specs.Object.{same_inbox}
use Rattle.mama_rules_services.specs.Bridge.{BridgeEvent, joins, leaves, opens, closes, asks, publishes, images, replies, wishes, client_done, sends_done, settled, bye, no_event, BridgePut, to_publisher, to_queue, is_settling, has_ending, is_live, is_open, terms_in, inbox_terms_in, joins_sub, opens_inbox, closes_inbox, live_subs, open_inboxes, newly_opened, place_of, sent_with, window, reply_window, replied_to, faults_of, inbox_faults_of, free_slot, to_found, to_first, wants_image, delivered, replied, gone, passed_on, passed, passed_reply, ended, ended_inbox, may_wish, answer, bridge_reaction}
use Rattle.mama_rules_legal.specs.Streams.{stream_of}
use Rattle.mama_laws_legal.proofs.Lives.{same_inbox-is, same_inbox-itself}
use Rattle.mama_laws_legal.proofs.Among.{AreIds, is_made, begun_by, among_alive, own_among}
use Rattle.mama_laws_legal.proofs.BridgeStreams.{is_word, stream-append, stream_flat, stream_cond, none_cond, delivered_of, replied_of, items_other, gone_other, reaction_of}

abbrev pub stream : InboxId → List BridgePut → List (ℕ × QueueNote)
stream s outs = stream_of (Inbox s) outs

-- ---- among the open inboxes it stands once

abbrev inbox_made : BridgeEvent → Option InboxId
inbox_made (opens i terms tag) = Some i
inbox_made _ = None

inbox_ids : AreIds same_inbox opens_inbox newly_opened inbox_made
inbox_ids = record { same_is = same_inbox-is; begins_made = begins; begun_made = begun }
  where
    said_bool : (b : Bool) (terms : InboxTerms) → is_some (cond b (Some terms) None) ≡ b
    said_bool true terms = refl
    said_bool false terms = refl

    begins : (i : InboxId) (e : BridgeEvent) → opens_inbox i e ≡ is_made same_inbox i (inbox_made e)
    begins i (opens r terms tag) = said_bool (same_inbox r i) terms
    begins i _ = refl

    begun : (es : List BridgeEvent) (e : BridgeEvent) → newly_opened es e ≡ begun_by opens_inbox es (inbox_made e)
    begun es (opens r terms tag) = refl
    begun es _ = refl

over_open : (shape : Shape) (s : InboxId) (f : InboxId → List BridgePut) (es : List BridgeEvent) → ((r : InboxId) → same_inbox r s ≡ false → stream s (f r) ≡ [])
    → stream s (flat_map f (open_inboxes shape es)) ≡ cond (is_open shape s es) (stream s (f s)) []
over_open shape s f es others =
    own_among same_inbox same_inbox-is (stream s) refl (stream-append (Inbox s)) s f others (open_inboxes shape es)
    ∙ among_alive same_inbox opens_inbox closes_inbox (has_ending shape) newly_opened inbox_made inbox_ids s (stream s (f s)) es

-- ---- what is for others

replied_other : (s r : InboxId) (sofar : List BridgePut) (arrivals : List ReplyArrival) → same_inbox r s ≡ false → stream s (replied r sofar arrivals) ≡ []
replied_other s r sofar arrivals other = items_other (Inbox s) (place_of (Inbox r) sofar) (λ slot a. replied_note slot r a) arrivals (λ slot a. replied_of (Inbox s) slot r a ∙ other)

delivered_away : (s : InboxId) (r : SubId) (sofar : List BridgePut) (arrivals : List Arrival) → stream s (delivered r sofar arrivals) ≡ []
delivered_away s r sofar arrivals = items_other (Inbox s) (place_of (Sub r) sofar) (λ slot a. delivered_note slot r a) arrivals (λ slot a. delivered_of (Inbox s) slot r a)

sub_away : (s : InboxId) (r : SubId) (shape : Shape) (es : List BridgeEvent) (sofar : List BridgePut) → stream s (ended shape es sofar r) ≡ []
sub_away s r shape es sofar =
    let held : List Arrival = rest (faults_of (first_said (terms_in r) es)) (arriving (window shape r es)) in
    stream-append (Inbox s) (delivered r sofar held) (gone (Sub r) sofar)
    ∙ ap (λ (ws : List (ℕ × QueueNote)). ws ++ stream s (gone (Sub r) sofar)) (delivered_away s r sofar held) ∙ gone_other (Inbox s) (Sub r) sofar refl

ended_other : (s i : InboxId) (shape : Shape) (es : List BridgeEvent) (sofar : List BridgePut) → same_inbox i s ≡ false → stream s (ended_inbox shape es sofar i) ≡ []
ended_other s i shape es sofar other =
    let held : List ReplyArrival = rest (inbox_faults_of (first_said (inbox_terms_in i) es)) (answering (reply_window shape i es)) in
    stream-append (Inbox s) (replied i sofar held) (gone (Inbox i) sofar)
    ∙ ap (λ (ws : List (ℕ × QueueNote)). ws ++ stream s (gone (Inbox i) sofar)) (replied_other s i sofar held other) ∙ gone_other (Inbox s) (Inbox i) sofar other

passed_away : (s : InboxId) (r : SubId) (shape : Shape) (es : List BridgeEvent) (sofar : List BridgePut) (e : BridgeEvent) → stream s (passed shape es sofar e r) ≡ []
passed_away s r shape es sofar e =
    let terms = first_said (terms_in r) es in
    delivered_away s r sofar (passed_on cut_arrival (faults_of terms) (arriving (window shape r es)) (arriving (sent_with shape r terms e)))

passed_other : (s i : InboxId) (shape : Shape) (es : List BridgeEvent) (sofar : List BridgePut) (e : BridgeEvent) → same_inbox i s ≡ false → stream s (passed_reply shape es sofar e i) ≡ []
passed_other s i shape es sofar e other =
    let terms = first_said (inbox_terms_in i) es in
    replied_other s i sofar (passed_on cut_reply (inbox_faults_of terms) (answering (reply_window shape i es)) (answering (replied_to i e))) other

stream_first : (s : InboxId) (shape : Shape) (topic : ℕ) (note : PublisherNote) → stream s (to_first shape topic note) ≡ []
stream_first s shape topic note = found (position (λ t. t == topic) shape.publisher_topics)
  where
    found : (o : Option ℕ) → stream s (to_found o note) ≡ []
    found None = refl
    found (Some r) = refl

stream_wants : (s : InboxId) (r : SubId) (shape : Shape) (kind : SubKind) (topic : ℕ) → stream s (wants_image shape r kind topic) ≡ []
stream_wants s r shape Basic topic = refl
stream_wants s r shape Market topic = stream_first s shape topic (p.Want r Initial)
stream_wants s r shape Snapshot topic = stream_first s shape topic (p.Want r Initial)

-- ---- what is sent into its link

pub quiet : (s : InboxId) (e : BridgeEvent) → is_word e ≡ true → replied_to s e ≡ []
quiet s (client_done c) word = refl
quiet s (sends_done r) word = refl
quiet s (settled r) word = refl
quiet s _ word = absurd (both_ways false refl word)

passed_none : (s : InboxId) (shape : Shape) (es : List BridgeEvent) (sofar : List BridgePut) (e : BridgeEvent) → replied_to s e ≡ [] → stream s (passed_reply shape es sofar e s) ≡ []
passed_none s shape es sofar e none =
    ap (λ (ms : List (List FieldData)). stream s (replied s sofar (passed_on cut_reply (inbox_faults_of (first_said (inbox_terms_in s) es)) (answering (reply_window shape s es)) (answering ms)))) none

live_none : (live : Bool) (ws : List (ℕ × QueueNote)) → ws ≡ [] → [] ≡ cond live ws []
live_none true ws none = sym none
live_none false ws none = refl

nothing_for : (shape : Shape) (s : InboxId) (es : List BridgeEvent) (sofar : List BridgePut) (e : BridgeEvent) → replied_to s e ≡ [] → [] ≡ cond (is_open shape s es) (stream s (passed_reply shape es sofar e s)) []
nothing_for shape s es sofar e none = live_none (is_open shape s es) (stream s (passed_reply shape es sofar e s)) (passed_none s shape es sofar e none)

-- ---- the answer to an event, where an opening of it is not the first

pub answer_stream : (shape : Shape) (s : InboxId) (es : List BridgeEvent) (sofar : List BridgePut) (e : BridgeEvent) → (opens_inbox s e ≡ true → list_any (opens_inbox s) es ≡ true)
    → stream s (answer shape es sofar e) ≡ cond (is_open shape s es) (cond (closes_inbox s e) (stream s (ended_inbox shape es sofar s)) (stream s (passed_reply shape es sofar e s))) []
answer_stream shape s es sofar (opens r terms tag) again = by_case (same_inbox r s) refl ∙ nothing_for shape s es sofar (opens r terms tag) refl
  where
    put : List BridgePut
    put = to_queue terms.queue (q.Create (free_slot shape es sofar terms.queue) (Inbox r) make.Inbox tag) ∷ []

    known : (b : Bool) → same_inbox r s ≡ b → is_some (cond (same_inbox r s) (Some terms) None) ≡ b
    known true same = ap (λ (b : Bool). is_some (cond b (Some terms) None)) same
    known false same = ap (λ (b : Bool). is_some (cond b (Some terms) None)) same

    either : (b : Bool) → stream s put ≡ [] → stream s (cond b [] put) ≡ []
    either true none = refl
    either false none = none

    by_case : (b : Bool) → same_inbox r s ≡ b → stream s (cond (list_any (opens_inbox r) es) [] put) ≡ []
    by_case true same = ap (λ (b : Bool). stream s (cond b [] put)) (ap (λ (u : InboxId). list_any (opens_inbox u) es) (same_inbox-is r s same) ∙ again (known true same))
    by_case false same = either (list_any (opens_inbox r) es)
        (ap (λ (b : Bool). cond b ((terms.queue, q.Create (free_slot shape es sofar terms.queue) (Inbox r) make.Inbox tag) ∷ []) [] ++ []) same)
answer_stream shape s es sofar (closes r) again = by_case (same_inbox r s) refl
  where
    by_case : (b : Bool) → same_inbox r s ≡ b → stream s (cond (is_open shape r es) (ended_inbox shape es sofar r) [])
        ≡ cond (is_open shape s es) (cond (same_inbox r s) (stream s (ended_inbox shape es sofar s)) (stream s (passed_reply shape es sofar (closes r) s))) []
    by_case true same =
        ap (λ (u : InboxId). stream s (cond (is_open shape u es) (ended_inbox shape es sofar u) [])) (same_inbox-is r s same) ∙ stream_cond (Inbox s) (is_open shape s es) (ended_inbox shape es sofar s)
        ∙ ap (λ (b : Bool). cond (is_open shape s es) (cond b (stream s (ended_inbox shape es sofar s)) (stream s (passed_reply shape es sofar (closes r) s))) []) (sym same)
    by_case false same = none_cond (Inbox s) (is_open shape r es) (ended_inbox shape es sofar r) (ended_other s r shape es sofar same)
        ∙ nothing_for shape s es sofar (closes r) refl
        ∙ ap (λ (b : Bool). cond (is_open shape s es) (cond b (stream s (ended_inbox shape es sofar s)) (stream s (passed_reply shape es sofar (closes r) s))) []) (sym same)
answer_stream shape s es sofar (joins r terms tag) again =
    either (list_any (joins_sub r) es) ∙ nothing_for shape s es sofar (joins r terms tag) refl
  where
    either : (b : Bool) → stream s (cond b [] (to_queue terms.queue (q.Create (free_slot shape es sofar terms.queue) (Sub r) (make.Sub terms.kind terms.cache shape.strategy) tag) ∷ wants_image shape r terms.kind terms.topic)) ≡ []
    either true = refl
    either false = stream_wants s r shape terms.kind terms.topic
answer_stream shape s es sofar (leaves r) again = none_cond (Inbox s) (is_live shape r es) (ended shape es sofar r) (sub_away s r shape es sofar) ∙ nothing_for shape s es sofar (leaves r) refl
answer_stream shape s es sofar (asks i topic fids) again =
    none_cond (Inbox s) (is_open shape i es && not (is_settling shape es)) (to_first shape topic (p.Ask i fids)) (stream_first s shape topic (p.Ask i fids)) ∙ nothing_for shape s es sofar (asks i topic fids) refl
answer_stream shape s es sofar (publishes r msg) again =
    stream_flat (Inbox s) (passed shape es sofar (publishes r msg)) (live_subs shape es) (λ u. passed_away s u shape es sofar (publishes r msg)) ∙ nothing_for shape s es sofar (publishes r msg) refl
answer_stream shape s es sofar (images r msg) again =
    none_cond (Inbox s) (is_live shape r es) (passed shape es sofar (images r msg) r) (passed_away s r shape es sofar (images r msg)) ∙ nothing_for shape s es sofar (images r msg) refl
answer_stream shape s es sofar (replies i body) again = by_case (same_inbox i s) refl
  where
    by_case : (b : Bool) → same_inbox i s ≡ b → stream s (cond (is_open shape i es) (passed_reply shape es sofar (replies i body) i) []) ≡ cond (is_open shape s es) (stream s (passed_reply shape es sofar (replies i body) s)) []
    by_case true same = ap (λ (u : InboxId). stream s (cond (is_open shape u es) (passed_reply shape es sofar (replies i body) u) [])) (same_inbox-is i s same) ∙ stream_cond (Inbox s) (is_open shape s es) (passed_reply shape es sofar (replies i body) s)
    by_case false same = none_cond (Inbox s) (is_open shape i es) (passed_reply shape es sofar (replies i body) i) (passed_other s i shape es sofar (replies i body) same)
        ∙ nothing_for shape s es sofar (replies i body) (ap (λ (b : Bool). cond b (body ∷ []) []) same)
answer_stream shape s es sofar (wishes r sender) again =
    none_cond (Inbox s) (is_live shape r es && may_wish shape es sofar r sender (first_said (terms_in r) es)) (to_publisher (sender - 1) (p.Want r Recap) ∷ []) refl ∙ nothing_for shape s es sofar (wishes r sender) refl
answer_stream shape s es sofar (client_done c) again = nothing_for shape s es sofar (client_done c) refl
answer_stream shape s es sofar (sends_done r) again = nothing_for shape s es sofar (sends_done r) refl
answer_stream shape s es sofar (settled r) again = nothing_for shape s es sofar (settled r) refl
answer_stream shape s es sofar (bye k) again = nothing_for shape s es sofar (bye k) refl
answer_stream shape s es sofar no_event again = nothing_for shape s es sofar no_event refl

-- the first opening of it
pub join_stream : (shape : Shape) (s : InboxId) (es : List BridgeEvent) (sofar : List BridgePut) (terms : InboxTerms) (tag : ObjectId) → list_any (opens_inbox s) es ≡ false
    → stream s (answer shape es sofar (opens s terms tag)) ≡ (terms.queue, q.Create (free_slot shape es sofar terms.queue) (Inbox s) make.Inbox tag) ∷ []
join_stream shape s es sofar terms tag new =
    let made : ℕ × QueueNote = (terms.queue, q.Create (free_slot shape es sofar terms.queue) (Inbox s) make.Inbox tag) in
    ap (λ (b : Bool). stream s (cond b [] (to_queue terms.queue (q.Create (free_slot shape es sofar terms.queue) (Inbox s) make.Inbox tag) ∷ []))) new
    ∙ ap (λ (b : Bool). cond b (made ∷ []) [] ++ []) (same_inbox-itself s)

-- all that one event puts for it
pub reaction_stream : (shape : Shape) (s : InboxId) (es : List BridgeEvent) (sofar : List BridgePut) (e : BridgeEvent)
    → stream s (bridge_reaction shape es sofar e) ≡ stream s (answer shape es sofar e) ++ cond (turns (has_ending shape) es e) (cond (is_open shape s es) (stream s (ended_inbox shape es sofar s)) []) []
reaction_stream shape s es sofar e = reaction_of shape (Inbox s) es sofar e (cond (is_open shape s es) (stream s (ended_inbox shape es sofar s)) [])
    (ap (λ (ws : List (ℕ × QueueNote)). ws ++ stream s (flat_map (ended_inbox shape es sofar) (open_inboxes shape es))) (stream_flat (Inbox s) (ended shape es sofar) (live_subs shape es) (λ r. sub_away s r shape es sofar))
    ∙ over_open shape s (ended_inbox shape es sofar) es (λ i other. ended_other s i shape es sofar other))
