-- What one entry of the bridge puts for a subscription.
use Rattle.std.specs.Prelude.{not, position, Option, None, Some, is_some, ◌-◌}
use Rattle.std.specs.List.{flat_map, list_any}
use Rattle.std.proofs.Common.{◌≡◌, ℕ, ◌==◌, Bool, true, false, ◌&&◌, cond, List, [], ◌∷◌, ◌++◌, refl, sym, ◌∙◌, ap, append-nil}
use Rattle.std.proofs.lemmas.Bool.{both_ways}
use Rattle.mama_journal.specs.Journal.{turns, first_said}
use Rattle.mama_link.specs.Link.{rest}
use Rattle.mama_event.specs.Arrival.{Arrival, ReplyArrival, arriving, answering, cut_arrival, cut_reply}
use Rattle.mama_event.specs.Noted.{delivered_note, replied_note}
use Rattle.mama_event.specs.declared.ids.SubId.{SubId}
use Rattle.mama_event.specs.declared.ids.InboxId.{InboxId}
use Rattle.mama_event.specs.declared.ids.ObjectId.{ObjectId}
use Rattle.mama_event.specs.declared.ids.ObjectId.TheVariants.{Sub, Inbox}
use Rattle.mama_event.specs.declared.market.MarketMsg.{MarketMsg}
use Rattle.mama_event.specs.declared.market.MsgKind.TheVariants.{Initial, Recap}
use Rattle.mama_event.specs.declared.market.SubKind.{SubKind}
use Rattle.mama_event.specs.declared.market.SubKind.TheVariants.{Market, Snapshot, Basic}
use Rattle.mama_event.specs.declared.shape.Shape.{Shape}
use Rattle.mama_event.specs.declared.to_bridge.SubTerms.{SubTerms}
use Rattle.mama_event.specs.declared.to_publisher.PublisherNote.{PublisherNote}
use Rattle.mama_event.specs.declared.to_publisher.PublisherNote.TheVariants as p
use Rattle.mama_event.specs.declared.to_queue.Make.TheVariants as make
use Rattle.mama_event.specs.declared.to_queue.QueueNote.{QueueNote}
use Rattle.mama_event.specs.declared.to_queue.QueueNote.TheVariants as q
use Rattle.mama_event.specs.Object.{same_sub}
use Rattle.mama_rules_services.specs.Bridge.{BridgeEvent, joins, leaves, opens, closes, asks, publishes, images, replies, wishes, client_done, sends_done, settled, bye, no_event, BridgePut, to_publisher, to_queue, is_settling, has_ending, is_live, is_open, terms_in, inbox_terms_in, joins_sub, leaves_sub, opens_inbox, live_subs, open_inboxes, newly_joined, place_of, sent_to, sent_with, window, reply_window, replied_to, faults_of, inbox_faults_of, free_slot, to_found, to_first, wants_image, delivered, replied, gone, passed_on, passed, passed_reply, ended, ended_inbox, may_wish, answer, bridge_reaction}
use Rattle.mama_rules_legal.specs.Streams.{stream_of}
use Rattle.mama_laws_legal.proofs.Lives.{same_sub-is, same_sub-itself}
use Rattle.mama_laws_legal.proofs.Among.{AreIds, is_made, begun_by, among_alive, own_among}
use Rattle.mama_laws_legal.proofs.BridgeStreams.{is_word, stream-append, stream_flat, stream_cond, none_cond, delivered_of, replied_of, items_other, gone_other, reaction_of}

abbrev pub stream : SubId → List BridgePut → List (ℕ × QueueNote)
stream s outs = stream_of (Sub s) outs

-- ---- among the live subscriptions it stands once

abbrev sub_made : BridgeEvent → Option SubId
sub_made (joins s terms tag) = Some s
sub_made _ = None

sub_ids : AreIds same_sub joins_sub newly_joined sub_made
sub_ids = record { same_is = same_sub-is; begins_made = begins; begun_made = begun }
  where
    said_bool : (b : Bool) (terms : SubTerms) → is_some (cond b (Some terms) None) ≡ b
    said_bool true terms = refl
    said_bool false terms = refl

    begins : (s : SubId) (e : BridgeEvent) → joins_sub s e ≡ is_made same_sub s (sub_made e)
    begins s (joins r terms tag) = said_bool (same_sub r s) terms
    begins s _ = refl

    begun : (es : List BridgeEvent) (e : BridgeEvent) → newly_joined es e ≡ begun_by joins_sub es (sub_made e)
    begun es (joins r terms tag) = refl
    begun es _ = refl

over_live : (shape : Shape) (s : SubId) (f : SubId → List BridgePut) (es : List BridgeEvent) → ((r : SubId) → same_sub r s ≡ false → stream s (f r) ≡ [])
    → stream s (flat_map f (live_subs shape es)) ≡ cond (is_live shape s es) (stream s (f s)) []
over_live shape s f es others =
    own_among same_sub same_sub-is (stream s) refl (stream-append (Sub s)) s f others (live_subs shape es)
    ∙ among_alive same_sub joins_sub leaves_sub (has_ending shape) newly_joined sub_made sub_ids s (stream s (f s)) es

-- ---- what is for others

delivered_other : (s r : SubId) (sofar : List BridgePut) (arrivals : List Arrival) → same_sub r s ≡ false → stream s (delivered r sofar arrivals) ≡ []
delivered_other s r sofar arrivals other = items_other (Sub s) (place_of (Sub r) sofar) (λ slot a. delivered_note slot r a) arrivals (λ slot a. delivered_of (Sub s) slot r a ∙ other)

replied_other : (s : SubId) (i : InboxId) (sofar : List BridgePut) (arrivals : List ReplyArrival) → stream s (replied i sofar arrivals) ≡ []
replied_other s i sofar arrivals = items_other (Sub s) (place_of (Inbox i) sofar) (λ slot a. replied_note slot i a) arrivals (λ slot a. replied_of (Sub s) slot i a)

ended_other : (s r : SubId) (shape : Shape) (es : List BridgeEvent) (sofar : List BridgePut) → same_sub r s ≡ false → stream s (ended shape es sofar r) ≡ []
ended_other s r shape es sofar other =
    let held : List Arrival = rest (faults_of (first_said (terms_in r) es)) (arriving (window shape r es)) in
    stream-append (Sub s) (delivered r sofar held) (gone (Sub r) sofar)
    ∙ ap (λ (ws : List (ℕ × QueueNote)). ws ++ stream s (gone (Sub r) sofar)) (delivered_other s r sofar held other) ∙ gone_other (Sub s) (Sub r) sofar other

ended_inbox_other : (s : SubId) (i : InboxId) (shape : Shape) (es : List BridgeEvent) (sofar : List BridgePut) → stream s (ended_inbox shape es sofar i) ≡ []
ended_inbox_other s i shape es sofar =
    let held : List ReplyArrival = rest (inbox_faults_of (first_said (inbox_terms_in i) es)) (answering (reply_window shape i es)) in
    stream-append (Sub s) (replied i sofar held) (gone (Inbox i) sofar)
    ∙ ap (λ (ws : List (ℕ × QueueNote)). ws ++ stream s (gone (Inbox i) sofar)) (replied_other s i sofar held) ∙ gone_other (Sub s) (Inbox i) sofar refl

passed_other : (s r : SubId) (shape : Shape) (es : List BridgeEvent) (sofar : List BridgePut) (e : BridgeEvent) → same_sub r s ≡ false → stream s (passed shape es sofar e r) ≡ []
passed_other s r shape es sofar e other =
    let terms = first_said (terms_in r) es in
    delivered_other s r sofar (passed_on cut_arrival (faults_of terms) (arriving (window shape r es)) (arriving (sent_with shape r terms e))) other

stream_first : (s : SubId) (shape : Shape) (topic : ℕ) (note : PublisherNote) → stream s (to_first shape topic note) ≡ []
stream_first s shape topic note = found (position (λ t. t == topic) shape.publisher_topics)
  where
    found : (o : Option ℕ) → stream s (to_found o note) ≡ []
    found None = refl
    found (Some r) = refl

stream_wants : (s r : SubId) (shape : Shape) (kind : SubKind) (topic : ℕ) → stream s (wants_image shape r kind topic) ≡ []
stream_wants s r shape Basic topic = refl
stream_wants s r shape Market topic = stream_first s shape topic (p.Want r Initial)
stream_wants s r shape Snapshot topic = stream_first s shape topic (p.Want r Initial)

-- ---- what is sent into its link

-- an event that sends nothing into a link
pub quiet : (shape : Shape) (s : SubId) (terms : Option SubTerms) (e : BridgeEvent) → is_word e ≡ true → sent_with shape s terms e ≡ []
quiet shape s None e word = refl
quiet shape s (Some terms) (client_done c) word = refl
quiet shape s (Some terms) (sends_done r) word = refl
quiet shape s (Some terms) (settled r) word = refl
quiet shape s (Some terms) _ word = absurd (both_ways false refl word)

passed_none : (s : SubId) (shape : Shape) (es : List BridgeEvent) (sofar : List BridgePut) (e : BridgeEvent) → sent_with shape s (first_said (terms_in s) es) e ≡ [] → stream s (passed shape es sofar e s) ≡ []
passed_none s shape es sofar e none =
    let terms = first_said (terms_in s) es in
    ap (λ (ms : List MarketMsg). stream s (delivered s sofar (passed_on cut_arrival (faults_of terms) (arriving (window shape s es)) (arriving ms)))) none

pub no_messages : (shape : Shape) (s : SubId) (e : BridgeEvent) → ((topic : ℕ) → sent_to shape s topic e ≡ []) → (terms : Option SubTerms) → sent_with shape s terms e ≡ []
no_messages shape s e none None = refl
no_messages shape s e none (Some terms) = none terms.topic

live_none : (live : Bool) (ws : List (ℕ × QueueNote)) → ws ≡ [] → [] ≡ cond live ws []
live_none true ws none = sym none
live_none false ws none = refl

-- ---- the answer to an event, where a join of it is not the first

pub answer_stream : (shape : Shape) (s : SubId) (es : List BridgeEvent) (sofar : List BridgePut) (e : BridgeEvent) → (joins_sub s e ≡ true → list_any (joins_sub s) es ≡ true)
    → stream s (answer shape es sofar e) ≡ cond (is_live shape s es) (cond (leaves_sub s e) (stream s (ended shape es sofar s)) (stream s (passed shape es sofar e s))) []
answer_stream shape s es sofar (joins r terms tag) again = by_case (same_sub r s) refl
    ∙ live_none (is_live shape s es) (stream s (passed shape es sofar (joins r terms tag) s)) (passed_none s shape es sofar (joins r terms tag) (no_messages shape s (joins r terms tag) (λ topic. refl) (first_said (terms_in s) es)))
  where
    put : List BridgePut
    put = to_queue terms.queue (q.Create (free_slot shape es sofar terms.queue) (Sub r) (make.Sub terms.kind terms.cache shape.strategy) tag) ∷ wants_image shape r terms.kind terms.topic

    known : (b : Bool) → same_sub r s ≡ b → is_some (cond (same_sub r s) (Some terms) None) ≡ b
    known true same = ap (λ (b : Bool). is_some (cond b (Some terms) None)) same
    known false same = ap (λ (b : Bool). is_some (cond b (Some terms) None)) same

    either : (b : Bool) → stream s put ≡ [] → stream s (cond b [] put) ≡ []
    either true none = refl
    either false none = none

    by_case : (b : Bool) → same_sub r s ≡ b → stream s (cond (list_any (joins_sub r) es) [] put) ≡ []
    by_case true same = ap (λ (b : Bool). stream s (cond b [] put)) (ap (λ (u : SubId). list_any (joins_sub u) es) (same_sub-is r s same) ∙ again (known true same))
    by_case false same = either (list_any (joins_sub r) es)
        (ap (λ (b : Bool). cond b ((terms.queue, q.Create (free_slot shape es sofar terms.queue) (Sub r) (make.Sub terms.kind terms.cache shape.strategy) tag) ∷ []) [] ++ stream s (wants_image shape r terms.kind terms.topic)) same
        ∙ stream_wants s r shape terms.kind terms.topic)
answer_stream shape s es sofar (leaves r) again = by_case (same_sub r s) refl
  where
    by_case : (b : Bool) → same_sub r s ≡ b → stream s (cond (is_live shape r es) (ended shape es sofar r) [])
        ≡ cond (is_live shape s es) (cond (same_sub r s) (stream s (ended shape es sofar s)) (stream s (passed shape es sofar (leaves r) s))) []
    by_case true same =
        ap (λ (u : SubId). stream s (cond (is_live shape u es) (ended shape es sofar u) [])) (same_sub-is r s same) ∙ stream_cond (Sub s) (is_live shape s es) (ended shape es sofar s)
        ∙ ap (λ (b : Bool). cond (is_live shape s es) (cond b (stream s (ended shape es sofar s)) (stream s (passed shape es sofar (leaves r) s))) []) (sym same)
    by_case false same = none_cond (Sub s) (is_live shape r es) (ended shape es sofar r) (ended_other s r shape es sofar same)
        ∙ live_none (is_live shape s es) (stream s (passed shape es sofar (leaves r) s)) (passed_none s shape es sofar (leaves r) (no_messages shape s (leaves r) (λ topic. refl) (first_said (terms_in s) es)))
        ∙ ap (λ (b : Bool). cond (is_live shape s es) (cond b (stream s (ended shape es sofar s)) (stream s (passed shape es sofar (leaves r) s))) []) (sym same)
answer_stream shape s es sofar (opens i terms tag) again = either (list_any (opens_inbox i) es)
    ∙ live_none (is_live shape s es) (stream s (passed shape es sofar (opens i terms tag) s)) (passed_none s shape es sofar (opens i terms tag) (no_messages shape s (opens i terms tag) (λ topic. refl) (first_said (terms_in s) es)))
  where
    either : (b : Bool) → stream s (cond b [] (to_queue terms.queue (q.Create (free_slot shape es sofar terms.queue) (Inbox i) make.Inbox tag) ∷ [])) ≡ []
    either true = refl
    either false = refl
answer_stream shape s es sofar (closes i) again = none_cond (Sub s) (is_open shape i es) (ended_inbox shape es sofar i) (ended_inbox_other s i shape es sofar)
    ∙ live_none (is_live shape s es) (stream s (passed shape es sofar (closes i) s)) (passed_none s shape es sofar (closes i) (no_messages shape s (closes i) (λ topic. refl) (first_said (terms_in s) es)))
answer_stream shape s es sofar (asks i topic fids) again = none_cond (Sub s) (is_open shape i es && not (is_settling shape es)) (to_first shape topic (p.Ask i fids)) (stream_first s shape topic (p.Ask i fids))
    ∙ live_none (is_live shape s es) (stream s (passed shape es sofar (asks i topic fids) s)) (passed_none s shape es sofar (asks i topic fids) (no_messages shape s (asks i topic fids) (λ topic. refl) (first_said (terms_in s) es)))
answer_stream shape s es sofar (publishes r msg) again = over_live shape s (passed shape es sofar (publishes r msg)) es (λ u other. passed_other s u shape es sofar (publishes r msg) other)
answer_stream shape s es sofar (images r msg) again = by_case (same_sub r s) refl
  where
    sent : (terms : Option SubTerms) → same_sub r s ≡ false → sent_with shape s terms (images r msg) ≡ []
    sent None same = refl
    sent (Some terms) same = ap (λ (b : Bool). cond b (msg ∷ []) []) same

    by_case : (b : Bool) → same_sub r s ≡ b → stream s (cond (is_live shape r es) (passed shape es sofar (images r msg) r) []) ≡ cond (is_live shape s es) (stream s (passed shape es sofar (images r msg) s)) []
    by_case true same = ap (λ (u : SubId). stream s (cond (is_live shape u es) (passed shape es sofar (images r msg) u) [])) (same_sub-is r s same) ∙ stream_cond (Sub s) (is_live shape s es) (passed shape es sofar (images r msg) s)
    by_case false same = none_cond (Sub s) (is_live shape r es) (passed shape es sofar (images r msg) r) (passed_other s r shape es sofar (images r msg) same)
        ∙ live_none (is_live shape s es) (stream s (passed shape es sofar (images r msg) s)) (passed_none s shape es sofar (images r msg) (sent (first_said (terms_in s) es) same))
answer_stream shape s es sofar (replies i body) again =
    let terms = first_said (inbox_terms_in i) es in
    none_cond (Sub s) (is_open shape i es) (passed_reply shape es sofar (replies i body) i) (replied_other s i sofar (passed_on cut_reply (inbox_faults_of terms) (answering (reply_window shape i es)) (answering (replied_to i (replies i body)))))
    ∙ live_none (is_live shape s es) (stream s (passed shape es sofar (replies i body) s)) (passed_none s shape es sofar (replies i body) (no_messages shape s (replies i body) (λ topic. refl) (first_said (terms_in s) es)))
answer_stream shape s es sofar (wishes r sender) again = none_cond (Sub s) (is_live shape r es && may_wish shape es sofar r sender (first_said (terms_in r) es)) (to_publisher (sender - 1) (p.Want r Recap) ∷ []) refl
    ∙ live_none (is_live shape s es) (stream s (passed shape es sofar (wishes r sender) s)) (passed_none s shape es sofar (wishes r sender) (no_messages shape s (wishes r sender) (λ topic. refl) (first_said (terms_in s) es)))
answer_stream shape s es sofar (client_done c) again =
    live_none (is_live shape s es) (stream s (passed shape es sofar (client_done c) s)) (passed_none s shape es sofar (client_done c) (no_messages shape s (client_done c) (λ topic. refl) (first_said (terms_in s) es)))
answer_stream shape s es sofar (sends_done r) again =
    live_none (is_live shape s es) (stream s (passed shape es sofar (sends_done r) s)) (passed_none s shape es sofar (sends_done r) (no_messages shape s (sends_done r) (λ topic. refl) (first_said (terms_in s) es)))
answer_stream shape s es sofar (settled r) again =
    live_none (is_live shape s es) (stream s (passed shape es sofar (settled r) s)) (passed_none s shape es sofar (settled r) (no_messages shape s (settled r) (λ topic. refl) (first_said (terms_in s) es)))
answer_stream shape s es sofar (bye k) again =
    live_none (is_live shape s es) (stream s (passed shape es sofar (bye k) s)) (passed_none s shape es sofar (bye k) (no_messages shape s (bye k) (λ topic. refl) (first_said (terms_in s) es)))
answer_stream shape s es sofar no_event again =
    live_none (is_live shape s es) (stream s (passed shape es sofar no_event s)) (passed_none s shape es sofar no_event (no_messages shape s no_event (λ topic. refl) (first_said (terms_in s) es)))

-- the first join of it
pub join_stream : (shape : Shape) (s : SubId) (es : List BridgeEvent) (sofar : List BridgePut) (terms : SubTerms) (tag : ObjectId) → list_any (joins_sub s) es ≡ false
    → stream s (answer shape es sofar (joins s terms tag)) ≡ (terms.queue, q.Create (free_slot shape es sofar terms.queue) (Sub s) (make.Sub terms.kind terms.cache shape.strategy) tag) ∷ []
join_stream shape s es sofar terms tag new =
    let made : ℕ × QueueNote = (terms.queue, q.Create (free_slot shape es sofar terms.queue) (Sub s) (make.Sub terms.kind terms.cache shape.strategy) tag) in
    ap (λ (b : Bool). stream s (cond b [] (to_queue terms.queue (q.Create (free_slot shape es sofar terms.queue) (Sub s) (make.Sub terms.kind terms.cache shape.strategy) tag) ∷ wants_image shape s terms.kind terms.topic))) new
    ∙ ap (λ (b : Bool). cond b (made ∷ []) [] ++ stream s (wants_image shape s terms.kind terms.topic)) (same_sub-itself s)
    ∙ ap (λ (ws : List (ℕ × QueueNote)). made ∷ ws) (stream_wants s s shape terms.kind terms.topic)

-- all that one event puts for it
pub reaction_stream : (shape : Shape) (s : SubId) (es : List BridgeEvent) (sofar : List BridgePut) (e : BridgeEvent)
    → stream s (bridge_reaction shape es sofar e) ≡ stream s (answer shape es sofar e) ++ cond (turns (has_ending shape) es e) (cond (is_live shape s es) (stream s (ended shape es sofar s)) []) []
reaction_stream shape s es sofar e = reaction_of shape (Sub s) es sofar e (cond (is_live shape s es) (stream s (ended shape es sofar s)) [])
    (ap (λ (ws : List (ℕ × QueueNote)). stream s (flat_map (ended shape es sofar) (live_subs shape es)) ++ ws) (stream_flat (Sub s) (ended_inbox shape es sofar) (open_inboxes shape es) (λ i. ended_inbox_other s i shape es sofar))
    ∙ append-nil (stream s (flat_map (ended shape es sofar) (live_subs shape es)))
    ∙ over_live shape s (ended shape es sofar) es (λ r other. ended_other s r shape es sofar other))
