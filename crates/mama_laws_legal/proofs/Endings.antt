-- What the bridge puts to a publisher: at last Settle, and then Fin.
use Rattle.std.specs.Prelude.{Option, None, Some, not, nat_lt, nat_le, position, ◌-◌}
use Rattle.std.specs.List.{flat_map, list_any}
use Rattle.std.proofs.Common.{◌≡◌, ℕ, zero, suc, ◌<◌, ◌≤◌, ◌==◌, Bool, true, false, ◌&&◌, cond, List, [], ◌∷◌, ◌++◌, map, refl, sym, ◌∙◌, ap, arith, ⊎_elim, append-nil, append_assoc}
use Rattle.std.proofs.lemmas.Bool.{and_parts, and_from, or_left, or_from, both_ways, cases_eq, eq-eqb, ne_eqb}
use Rattle.std.proofs.lemmas.List.{map-append}
use Rattle.std.proofs.lemmas.List.Concat.{flat_map-append}
use Rattle.std.proofs.lemmas.List.Folds.{list_any-append}
use Rattle.mama_journal.specs.Journal.{all_puts, turns, all_below, numbers_below, count_of, first_said}
use Rattle.mama_link.specs.Link.{rest}
use Rattle.mama_event.specs.Arrival.{Arrival, ReplyArrival, arriving, answering, cut_arrival, cut_reply}
use Rattle.mama_event.specs.Noted.{delivered_note, replied_note}
use Rattle.mama_event.specs.declared.ids.SubId.{SubId}
use Rattle.mama_event.specs.declared.ids.InboxId.{InboxId}
use Rattle.mama_event.specs.declared.ids.ObjectId.TheVariants.{Sub, Inbox}
use Rattle.mama_event.specs.declared.market.MsgKind.TheVariants.{Initial, Recap}
use Rattle.mama_event.specs.declared.market.SubKind.{SubKind}
use Rattle.mama_event.specs.declared.market.SubKind.TheVariants.{Market, Snapshot, Basic}
use Rattle.mama_event.specs.declared.shape.Shape.{Shape}
use Rattle.mama_event.specs.declared.to_publisher.PublisherNote.{PublisherNote}
use Rattle.mama_event.specs.declared.to_publisher.PublisherNote.TheVariants as p
use Rattle.mama_event.specs.declared.to_timers.TimersNote.TheVariants as t
use Rattle.mama_event.specs.declared.to_queue.QueueNote.{QueueNote}
use Rattle.mama_event.specs.declared.to_queue.QueueNote.TheVariants as q
use Rattle.mama_event.specs.declared.to_queue.Make.TheVariants as make
use Rattle.mama_event.specs.declared.to_bridge.SubTerms.{SubTerms}
use Rattle.mama_event.specs.Ports.{clients_of, publishers_of, queues_of}
use Rattle.mama_rules_services.specs.Bridge.{BridgeEvent, joins, leaves, opens, closes, asks, publishes, images, replies, wishes, client_done, sends_done, settled, bye, no_event, BridgePut, to_publisher, to_queue, to_timers, ends_client, ends_sends, settles, is_settling, has_ending, is_live, is_open, joins_sub, opens_inbox, terms_in, inbox_terms_in, faults_of, inbox_faults_of, window, reply_window, passed_on, sent_with, replied_to, free_slot, is_recap_want, live_subs, open_inboxes, may_wish, to_place, to_found, to_first, wants_image, delivered, replied, gone, passed, passed_reply, ended, ended_inbox, answer, settle_begins, ending_comes, bridge_reaction}
use Rattle.mama_rules_rounds.specs.Setting.{publisher_part}
use Rattle.mama_journal.specs.EntryLaws.{all_puts-push}

-- Settle or Fin
abbrev pub is_ending : PublisherNote → Bool
is_ending (p.Want sub kind) = false
is_ending (p.Ask inbox fids) = false
is_ending p.Settle = true
is_ending p.Fin = true

-- an event that joins a subscription
abbrev pub is_joining : BridgeEvent → Bool
is_joining (joins s terms tag) = true
is_joining _ = false

abbrev pub part : ℕ → List BridgePut → List PublisherNote
part n outs = flat_map (publisher_part n) outs

-- what stands at the end of what is put
abbrev pub tail : Bool → Bool → List PublisherNote
tail a b = cond a (p.Settle ∷ cond b (p.Fin ∷ []) []) []

-- ---- what puts nothing to publishers

part_flat_map : {X : Type 0} (n : ℕ) (f : X → List BridgePut) (xs : List X) → ((x : X) → part n (f x) ≡ []) → part n (flat_map f xs) ≡ []
part_flat_map n f [] none = refl
part_flat_map n f (x ∷ xs) none = flat_map-append (publisher_part n) (f x) (flat_map f xs) ∙ ap (λ (ws : List PublisherNote). ws ++ part n (flat_map f xs)) (none x) ∙ part_flat_map n f xs none

part_append : (n : ℕ) (xs ys : List BridgePut) → part n xs ≡ [] → part n (xs ++ ys) ≡ part n ys
part_append n xs ys none = flat_map-append (publisher_part n) xs ys ∙ ap (λ (ws : List PublisherNote). ws ++ part n ys) none

part_place : (n : ℕ) (place : Option (ℕ × ℕ)) (event : ℕ → QueueNote) → part n (to_place place event) ≡ []
part_place n None event = refl
part_place n (Some place) event = refl

and_false : (b : Bool) → (b && false) ≡ false
and_false true = refl
and_false false = refl

part_cond : (n : ℕ) (b : Bool) (xs : List BridgePut) → part n xs ≡ [] → part n (cond b xs []) ≡ []
part_cond n true xs none = none
part_cond n false xs none = refl

part_delivered : (n : ℕ) (s : SubId) (sofar : List BridgePut) (arrivals : List Arrival) → part n (delivered s sofar arrivals) ≡ []
part_delivered n s sofar arrivals = part_flat_map n _ arrivals (λ a. part_place n _ (λ slot. delivered_note slot s a))

part_replied : (n : ℕ) (i : InboxId) (sofar : List BridgePut) (arrivals : List ReplyArrival) → part n (replied i sofar arrivals) ≡ []
part_replied n i sofar arrivals = part_flat_map n _ arrivals (λ a. part_place n _ (λ slot. replied_note slot i a))

part_ended : (n : ℕ) (shape : Shape) (before : List BridgeEvent) (sofar : List BridgePut) (s : SubId) → part n (ended shape before sofar s) ≡ []
part_ended n shape before sofar s =
    let held : List Arrival = rest (faults_of (first_said (terms_in s) before)) (arriving (window shape s before)) in
    part_append n (delivered s sofar held) (gone (Sub s) sofar) (part_delivered n s sofar held) ∙ part_place n _ (λ slot. q.Gone slot (Sub s))

part_ended_inbox : (n : ℕ) (shape : Shape) (before : List BridgeEvent) (sofar : List BridgePut) (i : InboxId) → part n (ended_inbox shape before sofar i) ≡ []
part_ended_inbox n shape before sofar i =
    let held : List ReplyArrival = rest (inbox_faults_of (first_said (inbox_terms_in i) before)) (answering (reply_window shape i before)) in
    part_append n (replied i sofar held) (gone (Inbox i) sofar) (part_replied n i sofar held) ∙ part_place n _ (λ slot. q.Gone slot (Inbox i))

part_queues : (n : ℕ) (ks : List ℕ) → part n (map (λ k. to_queue k q.Fin) ks) ≡ []
part_queues n [] = refl
part_queues n (k ∷ ks) = part_queues n ks

-- ---- to each publisher

part_none : (n : ℕ) (note : PublisherNote) (k : ℕ) → k ≤ n → part n (map (λ r. to_publisher r note) (numbers_below k)) ≡ []
part_none n note zero small = refl
part_none n note (suc k) small =
    ap (part n) (map_more k) ∙ flat_map-append (publisher_part n) (map (λ r. to_publisher r note) (numbers_below k)) (to_publisher k note ∷ [])
    ∙ ap (λ (ws : List PublisherNote). ws ++ part n (to_publisher k note ∷ [])) (part_none n note k (omega arith))
    ∙ ap (λ (b : Bool). cond b (note ∷ []) [] ++ []) (ne_eqb k n (λ same. absurd (omega arith)))
  where
    map_more : (k : ℕ) → map (λ r. to_publisher r note) (numbers_below k ++ k ∷ []) ≡ map (λ r. to_publisher r note) (numbers_below k) ++ to_publisher k note ∷ []
    map_more k = map-append (λ r. to_publisher r note) (numbers_below k) (k ∷ [])

part_each : (n : ℕ) (note : PublisherNote) (k : ℕ) → n < k → part n (map (λ r. to_publisher r note) (numbers_below k)) ≡ note ∷ []
part_each n note zero small = absurd (omega arith)
part_each n note (suc k) small =
    ap (part n) (map-append (λ r. to_publisher r note) (numbers_below k) (k ∷ [])) ∙ flat_map-append (publisher_part n) (map (λ r. to_publisher r note) (numbers_below k)) (to_publisher k note ∷ [])
    ∙ ⊎_elim
    (λ same. ap (λ (ws : List PublisherNote). ws ++ part n (to_publisher k note ∷ [])) (part_none n note k (omega arith)) ∙ ap (λ (b : Bool). cond b (note ∷ []) [] ++ []) (eq-eqb k n same))
    (λ apart. ap (λ (ws : List PublisherNote). ws ++ part n (to_publisher k note ∷ [])) (part_each n note k (omega arith)) ∙ ap (λ (b : Bool). note ∷ (cond b (note ∷ []) [] ++ [])) (ne_eqb k n apart))
    (cases_eq k n)

part_settle : (n : ℕ) (shape : Shape) (before : List BridgeEvent) (e : BridgeEvent) → n < publishers_of shape
    → part n (settle_begins shape before e) ≡ cond (turns (is_settling shape) before e) (p.Settle ∷ []) []
part_settle n shape before e small = by_case (turns (is_settling shape) before e)
  where
    by_case : (b : Bool) → part n (cond b (map (λ r. to_publisher r p.Settle) (numbers_below (publishers_of shape))) []) ≡ cond b (p.Settle ∷ []) []
    by_case true = part_each n p.Settle (publishers_of shape) small
    by_case false = refl

part_ending : (n : ℕ) (shape : Shape) (before : List BridgeEvent) (sofar : List BridgePut) (e : BridgeEvent) → n < publishers_of shape
    → part n (ending_comes shape before sofar e) ≡ cond (turns (has_ending shape) before e) (p.Fin ∷ []) []
part_ending n shape before sofar e small = by_case (turns (has_ending shape) before e)
  where
    all : List BridgePut
    all = flat_map (ended shape before sofar) (live_subs shape before)
        ++ flat_map (ended_inbox shape before sofar) (open_inboxes shape before)
        ++ to_timers t.Fin ∷ []
        ++ map (λ k. to_queue k q.Fin) (numbers_below (queues_of shape))
        ++ map (λ r. to_publisher r p.Fin) (numbers_below (publishers_of shape))

    by_case : (b : Bool) → part n (cond b all []) ≡ cond b (p.Fin ∷ []) []
    by_case true =
        let subs : List BridgePut = flat_map (ended shape before sofar) (live_subs shape before) in
        let inboxes : List BridgePut = flat_map (ended_inbox shape before sofar) (open_inboxes shape before) in
        let timers : List BridgePut = to_timers t.Fin ∷ [] in
        let queues : List BridgePut = map (λ k. to_queue k q.Fin) (numbers_below (queues_of shape)) in
        let ends : part n (subs ++ inboxes) ≡ [] = part_append n subs inboxes (part_flat_map n (ended shape before sofar) (live_subs shape before) (part_ended n shape before sofar))
        ∙ part_flat_map n (ended_inbox shape before sofar) (open_inboxes shape before) (part_ended_inbox n shape before sofar) in
        part_append n (subs ++ inboxes ++ timers ++ queues) (map (λ r. to_publisher r p.Fin) (numbers_below (publishers_of shape)))
        (part_append n (subs ++ inboxes ++ timers) queues (part_append n (subs ++ inboxes) timers ends) ∙ part_queues n (numbers_below (queues_of shape)))
        ∙ part_each n p.Fin (publishers_of shape) small
    by_case false = refl

-- ---- the answer to an event

part_passed : (n : ℕ) (shape : Shape) (before : List BridgeEvent) (sofar : List BridgePut) (e : BridgeEvent) (s : SubId) → part n (passed shape before sofar e s) ≡ []
part_passed n shape before sofar e s =
    let terms = first_said (terms_in s) before in
    part_delivered n s sofar (passed_on cut_arrival (faults_of terms) (arriving (window shape s before)) (arriving (sent_with shape s terms e)))

part_passed_reply : (n : ℕ) (shape : Shape) (before : List BridgeEvent) (sofar : List BridgePut) (e : BridgeEvent) (i : InboxId) → part n (passed_reply shape before sofar e i) ≡ []
part_passed_reply n shape before sofar e i =
    let terms = first_said (inbox_terms_in i) before in
    part_replied n i sofar (passed_on cut_reply (inbox_faults_of terms) (answering (reply_window shape i before)) (answering (replied_to i e)))

stops : List PublisherNote → Bool
stops notes = list_any is_ending notes

calm_found : (n : ℕ) (o : Option ℕ) (note : PublisherNote) → is_ending note ≡ false → list_any is_ending (part n (to_found o note)) ≡ false
calm_found n None note calm = refl
calm_found n (Some r) note calm = by_case (r == n)
  where
    by_case : (b : Bool) → list_any is_ending (cond b (note ∷ []) [] ++ []) ≡ false
    by_case true = or_from (is_ending note) false calm refl
    by_case false = refl

calm_first : (n : ℕ) (shape : Shape) (topic : ℕ) (note : PublisherNote) → is_ending note ≡ false → list_any is_ending (part n (to_first shape topic note)) ≡ false
calm_first n shape topic note calm = calm_found n (position (λ t. t == topic) shape.publisher_topics) note calm

calm_image : (n : ℕ) (shape : Shape) (s : SubId) (kind : SubKind) (topic : ℕ) → list_any is_ending (part n (wants_image shape s kind topic)) ≡ false
calm_image n shape s Basic topic = refl
calm_image n shape s Market topic = calm_first n shape topic (p.Want s Initial) refl
calm_image n shape s Snapshot topic = calm_first n shape topic (p.Want s Initial) refl

none_calm : (notes : List PublisherNote) → notes ≡ [] → list_any is_ending notes ≡ false
none_calm notes none = ap (list_any is_ending) none

calm_cond : (n : ℕ) (b : Bool) (xs ys : List BridgePut) → list_any is_ending (part n xs) ≡ false → list_any is_ending (part n ys) ≡ false → list_any is_ending (part n (cond b xs ys)) ≡ false
calm_cond n true xs ys h g = h
calm_cond n false xs ys h g = g

-- no answer has Settle or Fin in it
pub calm_answer : (n : ℕ) (shape : Shape) (before : List BridgeEvent) (sofar : List BridgePut) (e : BridgeEvent) → list_any is_ending (part n (answer shape before sofar e)) ≡ false
calm_answer n shape before sofar (joins s terms tag) = calm_cond n (list_any (joins_sub s) before) [] _ refl (calm_image n shape s terms.kind terms.topic)
calm_answer n shape before sofar (leaves s) = none_calm _ (part_cond n (is_live shape s before) (ended shape before sofar s) (part_ended n shape before sofar s))
calm_answer n shape before sofar (opens i terms tag) = calm_cond n (list_any (opens_inbox i) before) [] _ refl refl
calm_answer n shape before sofar (closes i) = none_calm _ (part_cond n (is_open shape i before) (ended_inbox shape before sofar i) (part_ended_inbox n shape before sofar i))
calm_answer n shape before sofar (asks i topic fids) = calm_cond n (is_open shape i before && not (is_settling shape before)) _ [] (calm_first n shape topic (p.Ask i fids) refl) refl
calm_answer n shape before sofar (publishes r msg) = none_calm _ (part_flat_map n (passed shape before sofar (publishes r msg)) (live_subs shape before) (part_passed n shape before sofar (publishes r msg)))
calm_answer n shape before sofar (images s msg) = none_calm _ (part_cond n (is_live shape s before) (passed shape before sofar (images s msg) s) (part_passed n shape before sofar (images s msg) s))
calm_answer n shape before sofar (replies i body) = none_calm _ (part_cond n (is_open shape i before) (passed_reply shape before sofar (replies i body) i) (part_passed_reply n shape before sofar (replies i body) i))
calm_answer n shape before sofar (wishes s sender) =
    calm_cond n (is_live shape s before && may_wish shape before sofar s sender (first_said (terms_in s) before)) (to_publisher (sender - 1) (p.Want s Recap) ∷ []) []
    (calm_found n (Some (sender - 1)) (p.Want s Recap) refl) refl
calm_answer n shape before sofar (client_done c) = refl
calm_answer n shape before sofar (sends_done r) = refl
calm_answer n shape before sofar (settled r) = refl
calm_answer n shape before sofar (bye k) = refl
calm_answer n shape before sofar no_event = refl

-- once settling has begun, only a join makes the bridge put anything to a publisher
late_wish : (n : ℕ) (shape : Shape) (before : List BridgeEvent) (sofar : List BridgePut) (s : SubId) (sender : ℕ) (terms : Option SubTerms) (live : Bool) → is_settling shape before ≡ true
    → part n (cond (live && may_wish shape before sofar s sender terms) (to_publisher (sender - 1) (p.Want s Recap) ∷ []) []) ≡ []
late_wish n shape before sofar s sender None live settling = ap (λ (b : Bool). part n (cond b (to_publisher (sender - 1) (p.Want s Recap) ∷ []) [])) (and_false live)
late_wish n shape before sofar s sender (Some terms) live settling =
    ap (λ (b : Bool). part n (cond (live && (not b && (nat_lt 0 sender && (nat_le sender (publishers_of shape) && nat_lt (count_of (is_recap_want s) sofar) terms.recaps)))) (to_publisher (sender - 1) (p.Want s Recap) ∷ []) [])) settling
    ∙ ap (λ (b : Bool). part n (cond b (to_publisher (sender - 1) (p.Want s Recap) ∷ []) [])) (and_false live)

late_answer : (n : ℕ) (shape : Shape) (before : List BridgeEvent) (sofar : List BridgePut) (e : BridgeEvent) → is_settling shape before ≡ true → is_joining e ≡ false → part n (answer shape before sofar e) ≡ []
late_answer n shape before sofar (joins s terms tag) settling other = absurd (both_ways true other refl)
late_answer n shape before sofar (leaves s) settling other = part_cond n (is_live shape s before) (ended shape before sofar s) (part_ended n shape before sofar s)
late_answer n shape before sofar (opens i terms tag) settling other = by_case (list_any (opens_inbox i) before)
  where
    by_case : (b : Bool) → part n (cond b [] (to_queue terms.queue (q.Create (free_slot shape before sofar terms.queue) (Inbox i) make.Inbox tag) ∷ [])) ≡ []
    by_case true = refl
    by_case false = refl
late_answer n shape before sofar (closes i) settling other = part_cond n (is_open shape i before) (ended_inbox shape before sofar i) (part_ended_inbox n shape before sofar i)
late_answer n shape before sofar (asks i topic fids) settling other =
    ap (λ (b : Bool). part n (cond (is_open shape i before && not b) (to_first shape topic (p.Ask i fids)) [])) settling
    ∙ ap (λ (b : Bool). part n (cond b (to_first shape topic (p.Ask i fids)) [])) (and_false (is_open shape i before))
late_answer n shape before sofar (publishes r msg) settling other = part_flat_map n (passed shape before sofar (publishes r msg)) (live_subs shape before) (part_passed n shape before sofar (publishes r msg))
late_answer n shape before sofar (images s msg) settling other = part_cond n (is_live shape s before) (passed shape before sofar (images s msg) s) (part_passed n shape before sofar (images s msg) s)
late_answer n shape before sofar (replies i body) settling other = part_cond n (is_open shape i before) (passed_reply shape before sofar (replies i body) i) (part_passed_reply n shape before sofar (replies i body) i)
late_answer n shape before sofar (wishes s sender) settling other = late_wish n shape before sofar s sender (first_said (terms_in s) before) (is_live shape s before) settling
late_answer n shape before sofar (client_done c) settling other = refl
late_answer n shape before sofar (sends_done r) settling other = refl
late_answer n shape before sofar (settled r) settling other = refl
late_answer n shape before sofar (bye k) settling other = refl
late_answer n shape before sofar no_event settling other = refl

-- ---- one event more

pub part_reaction : (n : ℕ) (shape : Shape) (before : List BridgeEvent) (sofar : List BridgePut) (e : BridgeEvent) → n < publishers_of shape
    → part n (bridge_reaction shape before sofar e)
    ≡ part n (answer shape before sofar e) ++ (cond (turns (is_settling shape) before e) (p.Settle ∷ []) [] ++ cond (turns (has_ending shape) before e) (p.Fin ∷ []) [])
part_reaction n shape before sofar e small =
    flat_map-append (publisher_part n) (answer shape before sofar e ++ settle_begins shape before e) (ending_comes shape before sofar e)
    ∙ ap (λ (ws : List PublisherNote). ws ++ part n (ending_comes shape before sofar e)) (flat_map-append (publisher_part n) (answer shape before sofar e) (settle_begins shape before e))
    ∙ append_assoc (part n (answer shape before sofar e)) (part n (settle_begins shape before e)) (part n (ending_comes shape before sofar e))
    ∙ ap (λ (ws : List PublisherNote). part n (answer shape before sofar e) ++ (ws ++ part n (ending_comes shape before sofar e))) (part_settle n shape before e small)
    ∙ ap (λ (ws : List PublisherNote). part n (answer shape before sofar e) ++ (cond (turns (is_settling shape) before e) (p.Settle ∷ []) [] ++ ws)) (part_ending n shape before sofar e small)

all_below_more : (n : ℕ) (f g : ℕ → Bool) → ((k : ℕ) → f k ≡ true → g k ≡ true) → all_below n f ≡ true → all_below n g ≡ true
all_below_more zero f g more h = refl
all_below_more (suc n) f g more h =
    let parts = and_parts (all_below n f) (f n) h in
    and_from (all_below n g) (g n) (all_below_more n f g more parts.0) (more n parts.1)

any_more : {X : Type 0} (test : X → Bool) (xs ys : List X) → list_any test xs ≡ true → list_any test (xs ++ ys) ≡ true
any_more test xs ys h = list_any-append test xs ys ∙ or_left (list_any test xs) (list_any test ys) h

pub settling_stays : (shape : Shape) (es fs : List BridgeEvent) → is_settling shape es ≡ true → is_settling shape (es ++ fs) ≡ true
settling_stays shape es fs h =
    let parts = and_parts (all_below (clients_of shape) (λ c. list_any (ends_client c) es)) (all_below (publishers_of shape) (λ r. list_any (ends_sends r) es)) h in
    and_from (all_below (clients_of shape) (λ c. list_any (ends_client c) (es ++ fs))) (all_below (publishers_of shape) (λ r. list_any (ends_sends r) (es ++ fs)))
    (all_below_more (clients_of shape) (λ c. list_any (ends_client c) es) (λ c. list_any (ends_client c) (es ++ fs)) (λ c. any_more (ends_client c) es fs) parts.0)
    (all_below_more (publishers_of shape) (λ r. list_any (ends_sends r) es) (λ r. list_any (ends_sends r) (es ++ fs)) (λ r. any_more (ends_sends r) es fs) parts.1)

pub ending_stays : (shape : Shape) (es fs : List BridgeEvent) → has_ending shape es ≡ true → has_ending shape (es ++ fs) ≡ true
ending_stays shape es fs h =
    let parts = and_parts (is_settling shape es) (all_below (publishers_of shape) (λ r. list_any (settles r) es)) h in
    and_from (is_settling shape (es ++ fs)) (all_below (publishers_of shape) (λ r. list_any (settles r) (es ++ fs)))
    (settling_stays shape es fs parts.0)
    (all_below_more (publishers_of shape) (λ r. list_any (settles r) es) (λ r. list_any (settles r) (es ++ fs)) (λ r. any_more (settles r) es fs) parts.1)

pub ending_settles : (shape : Shape) (es : List BridgeEvent) → has_ending shape es ≡ true → is_settling shape es ≡ true
ending_settles shape es h = (and_parts (is_settling shape es) (all_below (publishers_of shape) (λ r. list_any (settles r) es)) h).0

-- ---- what was put to a publisher: nothing that ends, and then Settle and Fin as far as they came

pub record Told (shape : Shape) (n : ℕ) (es : List BridgeEvent) (notes : List PublisherNote) : Type 0 where
  pub front : List PublisherNote
  pub whole : notes ≡ front ++ tail (is_settling shape es) (has_ending shape es)
  pub calm : list_any is_ending front ≡ false

told_step : (a a2 b b2 : Bool) (front more : List PublisherNote) → (a ≡ true → a2 ≡ true) → (b ≡ true → b2 ≡ true) → (b ≡ true → a ≡ true) → (b2 ≡ true → a2 ≡ true)
    → (a ≡ true → more ≡ [])
    → (front ++ tail a b) ++ (more ++ (cond (a2 && not a) (p.Settle ∷ []) [] ++ cond (b2 && not b) (p.Fin ∷ []) [])) ≡ (front ++ cond a [] more) ++ tail a2 b2
told_step true false b b2 front more sa sb ba ba2 none = absurd (both_ways false refl (sa refl))
told_step true true true false front more sa sb ba ba2 none = absurd (both_ways false refl (sb refl))
told_step true true true true front more sa sb ba ba2 none =
    ap (λ (ws : List PublisherNote). (front ++ (p.Settle ∷ p.Fin ∷ [])) ++ (ws ++ [])) (none refl) ∙ append-nil (front ++ (p.Settle ∷ p.Fin ∷ [])) ∙ ap (λ (ws : List PublisherNote). ws ++ (p.Settle ∷ p.Fin ∷ [])) (sym (append-nil front))
told_step true true false true front more sa sb ba ba2 none =
    ap (λ (ws : List PublisherNote). (front ++ (p.Settle ∷ [])) ++ (ws ++ (p.Fin ∷ []))) (none refl) ∙ append_assoc front (p.Settle ∷ []) (p.Fin ∷ []) ∙ ap (λ (ws : List PublisherNote). ws ++ (p.Settle ∷ p.Fin ∷ [])) (sym (append-nil front))
told_step true true false false front more sa sb ba ba2 none =
    ap (λ (ws : List PublisherNote). (front ++ (p.Settle ∷ [])) ++ (ws ++ [])) (none refl) ∙ append-nil (front ++ (p.Settle ∷ [])) ∙ ap (λ (ws : List PublisherNote). ws ++ (p.Settle ∷ [])) (sym (append-nil front))
told_step false a2 true b2 front more sa sb ba ba2 none = absurd (both_ways false refl (ba refl))
told_step false false false true front more sa sb ba ba2 none = absurd (both_ways false refl (ba2 refl))
told_step false false false false front more sa sb ba ba2 none =
    ap (λ (ws : List PublisherNote). ws ++ (more ++ [])) (append-nil front) ∙ sym (append_assoc front more [])
told_step false true false true front more sa sb ba ba2 none =
    ap (λ (ws : List PublisherNote). ws ++ (more ++ (p.Settle ∷ p.Fin ∷ []))) (append-nil front) ∙ sym (append_assoc front more (p.Settle ∷ p.Fin ∷ []))
told_step false true false false front more sa sb ba ba2 none =
    ap (λ (ws : List PublisherNote). ws ++ (more ++ (p.Settle ∷ []))) (append-nil front) ∙ sym (append_assoc front more (p.Settle ∷ []))

pub told_more : (shape : Shape) (n : ℕ) (es : List BridgeEvent) (e : BridgeEvent) → n < publishers_of shape → (is_settling shape es ≡ true → is_joining e ≡ false)
    → Told shape n es (part n (all_puts (bridge_reaction shape) es)) → Told shape n (es ++ e ∷ []) (part n (all_puts (bridge_reaction shape) (es ++ e ∷ [])))
told_more shape n es e small timely t =
    let sofar : List BridgePut = all_puts (bridge_reaction shape) es in
    let more : List PublisherNote = part n (answer shape es sofar e) in
    record {
      front = t.front ++ cond (is_settling shape es) [] more;
      whole = ap (part n) (all_puts-push (bridge_reaction shape) es e)
          ∙ flat_map-append (publisher_part n) sofar (bridge_reaction shape es sofar e)
          ∙ ap (λ (ws : List PublisherNote). part n sofar ++ ws) (part_reaction n shape es sofar e small)
          ∙ ap (λ (ws : List PublisherNote). ws ++ (more ++ (cond (turns (is_settling shape) es e) (p.Settle ∷ []) [] ++ cond (turns (has_ending shape) es e) (p.Fin ∷ []) []))) t.whole
          ∙ told_step (is_settling shape es) (is_settling shape (es ++ e ∷ [])) (has_ending shape es) (has_ending shape (es ++ e ∷ [])) t.front more
          (settling_stays shape es (e ∷ [])) (ending_stays shape es (e ∷ [])) (ending_settles shape es) (ending_settles shape (es ++ e ∷ []))
          (λ settling. late_answer n shape es sofar e settling (timely settling));
      calm = list_any-append is_ending t.front (cond (is_settling shape es) [] more)
          ∙ or_from (list_any is_ending t.front) (list_any is_ending (cond (is_settling shape es) [] more)) t.calm (either (is_settling shape es) more (calm_answer n shape es sofar e));
    }
  where
    either : (b : Bool) (ws : List PublisherNote) → list_any is_ending ws ≡ false → list_any is_ending (cond b [] ws) ≡ false
    either true ws h = refl
    either false ws h = h

pub told_none : (shape : Shape) (n : ℕ) → is_settling shape [] ≡ false → Told shape n [] []
told_none shape n yet = record { front = []; whole = sym (ap (λ (b : Bool). tail b (has_ending shape [])) yet); calm = refl }
