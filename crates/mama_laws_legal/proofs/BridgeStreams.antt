-- What of the bridge's puts is for one object, and with which events its ending comes.
use Rattle.std.specs.Prelude.{Option, None, Some, Ok, Err}
use Rattle.std.specs.List.{flat_map, list_any}
use Rattle.std.specs.Option.{option_or}
use Rattle.std.proofs.Common.{◌≡◌, ℕ, Bool, true, false, cond, List, [], ◌∷◌, ◌++◌, map, refl, sym, ◌∙◌, ap, append-nil}
use Rattle.std.proofs.lemmas.Bool.{both_ways}
use Rattle.std.proofs.lemmas.List.Concat.{flat_map-append}
use Rattle.mama_journal.specs.Journal.{turns, first_said, numbers_below}
use Rattle.mama_event.specs.Arrival.{Arrival, ReplyArrival}
use Rattle.mama_event.specs.Noted.{delivered_note, replied_note}
use Rattle.mama_event.specs.declared.ids.SubId.{SubId}
use Rattle.mama_event.specs.declared.ids.InboxId.{InboxId}
use Rattle.mama_event.specs.declared.ids.ObjectId.{ObjectId}
use Rattle.mama_event.specs.declared.ids.ObjectId.TheVariants.{Sub, Inbox}
use Rattle.mama_event.specs.declared.shape.Shape.{Shape}
use Rattle.mama_event.specs.declared.to_queue.Make.{Make}
use Rattle.mama_event.specs.declared.to_queue.QueueNote.{QueueNote}
use Rattle.mama_event.specs.declared.to_queue.QueueNote.TheVariants as q
use Rattle.mama_event.specs.declared.to_publisher.PublisherNote.TheVariants as p
use Rattle.mama_event.specs.declared.to_timers.TimersNote.TheVariants as t
use Rattle.mama_event.specs.Ports.{clients_of, publishers_of, queues_of}
use Rattle.mama_event.specs.Object.{same_object}
use Rattle.mama_rules_services.specs.Bridge.{BridgeEvent, client_done, sends_done, settled, BridgePut, to_publisher, to_queue, to_timers, ends_client, ends_sends, settles, is_settling, has_ending, live_subs, open_inboxes, created_by, created_in, place_of, to_place, gone, ended, ended_inbox, answer, settle_begins, ending_comes, bridge_reaction}
use Rattle.mama_rules_legal.specs.Streams.{is_of, put_for, stream_of}
use Rattle.mama_laws_legal.proofs.Lives.{same_object-itself, any_unchanged, all_below-same, first_said-append}

-- ---- the ending comes with a last word alone

abbrev pub is_word : BridgeEvent → Bool
is_word (client_done c) = true
is_word (sends_done p) = true
is_word (settled p) = true
is_word _ = false

no_word : (c p : ℕ) (e : BridgeEvent) → is_word e ≡ false → (ends_client c e ≡ false) × (ends_sends p e ≡ false) × (settles p e ≡ false)
no_word c p (client_done d) h = absurd (both_ways true h refl)
no_word c p (sends_done d) h = absurd (both_ways true h refl)
no_word c p (settled d) h = absurd (both_ways true h refl)
no_word c p _ h = (refl, refl, refl)

pub ending_same : (shape : Shape) (es : List BridgeEvent) (e : BridgeEvent) → is_word e ≡ false → has_ending shape (es ++ e ∷ []) ≡ has_ending shape es
ending_same shape es e h = rw (
  all_below-same (clients_of shape) (λ c. list_any (ends_client c) (es ++ e ∷ [])) (λ c. list_any (ends_client c) es) (λ c. any_unchanged (ends_client c) es e (no_word c 0 e h).0),
  all_below-same (publishers_of shape) (λ p. list_any (ends_sends p) (es ++ e ∷ [])) (λ p. list_any (ends_sends p) es) (λ p. any_unchanged (ends_sends p) es e (no_word 0 p e h).1),
  all_below-same (publishers_of shape) (λ p. list_any (settles p) (es ++ e ∷ [])) (λ p. list_any (settles p) es) (λ p. any_unchanged (settles p) es e (no_word 0 p e h).2),
) refl

-- ---- what is for an object

pub stream-append : (o : ObjectId) (xs ys : List BridgePut) → stream_of o (xs ++ ys) ≡ stream_of o xs ++ stream_of o ys
stream-append o xs ys = flat_map-append (put_for o) xs ys

pub none_append : (o : ObjectId) (xs ys : List BridgePut) → stream_of o xs ≡ [] → stream_of o ys ≡ [] → stream_of o (xs ++ ys) ≡ []
none_append o xs ys none no_more = stream-append o xs ys ∙ ap (λ (ws : List (ℕ × QueueNote)). ws ++ stream_of o ys) none ∙ no_more

pub stream_flat : {X : Type 0} (o : ObjectId) (f : X → List BridgePut) (xs : List X) → ((x : X) → stream_of o (f x) ≡ []) → stream_of o (flat_map f xs) ≡ []
stream_flat o f [] none = refl
stream_flat o f (x ∷ xs) none = stream-append o (f x) (flat_map f xs) ∙ ap (λ (ws : List (ℕ × QueueNote)). ws ++ stream_of o (flat_map f xs)) (none x) ∙ stream_flat o f xs none

pub stream_cond : (o : ObjectId) (b : Bool) (xs : List BridgePut) → stream_of o (cond b xs []) ≡ cond b (stream_of o xs) []
stream_cond o true xs = refl
stream_cond o false xs = refl

pub none_cond : (o : ObjectId) (b : Bool) (xs : List BridgePut) → stream_of o xs ≡ [] → stream_of o (cond b xs []) ≡ []
none_cond o true xs none = none
none_cond o false xs none = refl

pub none_unless : (o : ObjectId) (b : Bool) (xs : List BridgePut) → stream_of o xs ≡ [] → stream_of o (cond b [] xs) ≡ []
none_unless o true xs none = refl
none_unless o false xs none = none

-- an event of another object is not for it
pub place_other : (o : ObjectId) (place : Option (ℕ × ℕ)) (event : ℕ → QueueNote) → ((slot : ℕ) → is_of o (event slot) ≡ false) → stream_of o (to_place place event) ≡ []
place_other o None event other = refl
place_other o (Some place) event other = ap (λ (b : Bool). cond b ((place.0, event place.1) ∷ []) [] ++ []) (other place.1)

-- what arrives for an object is its own
pub delivered_of : (o : ObjectId) (slot : ℕ) (s : SubId) (a : Arrival) → is_of o (delivered_note slot s a) ≡ same_object (Sub s) o
delivered_of o slot s (Ok msg) = refl
delivered_of o slot s (Err piece) = refl

pub replied_of : (o : ObjectId) (slot : ℕ) (i : InboxId) (a : ReplyArrival) → is_of o (replied_note slot i a) ≡ same_object (Inbox i) o
replied_of o slot i (Ok body) = refl
replied_of o slot i (Err bytes) = refl

pub items_other : {M : Type 0} (o : ObjectId) (place : Option (ℕ × ℕ)) (item : ℕ → M → QueueNote) (ms : List M) → ((slot : ℕ) (m : M) → is_of o (item slot m) ≡ false)
    → stream_of o (flat_map (λ m. to_place place (λ slot. item slot m)) ms) ≡ []
items_other o place item ms other = stream_flat o (λ m. to_place place (λ slot. item slot m)) ms (λ m. place_other o place (λ slot. item slot m) (λ slot. other slot m))

pub gone_other : (o x : ObjectId) (sofar : List BridgePut) → same_object x o ≡ false → stream_of o (gone x sofar) ≡ []
gone_other o x sofar other = place_other o (place_of x sofar) (λ slot. q.Gone slot x) (λ slot. other)

-- and its own events are, where it has a place
pub items_here : {M : Type 0} (o : ObjectId) (place : Option (ℕ × ℕ)) (item : ℕ → M → QueueNote) (ms : List M) → ((slot : ℕ) (m : M) → is_of o (item slot m) ≡ true) → (k slot : ℕ) → place ≡ Some (k, slot)
    → stream_of o (flat_map (λ m. to_place place (λ slot. item slot m)) ms) ≡ map (λ m. (k, item slot m)) ms
items_here o place item [] own k slot is = refl
items_here o place item (m ∷ ms) own k slot is =
    stream-append o (to_place place (λ slot. item slot m)) (flat_map (λ m. to_place place (λ slot. item slot m)) ms)
    ∙ ap (λ (p : Option (ℕ × ℕ)). stream_of o (to_place p (λ slot. item slot m)) ++ stream_of o (flat_map (λ m. to_place place (λ slot. item slot m)) ms)) is
    ∙ ap (λ (b : Bool). (cond b ((k, item slot m) ∷ []) [] ++ []) ++ stream_of o (flat_map (λ m. to_place place (λ slot. item slot m)) ms)) (own slot m)
    ∙ ap (λ (ws : List (ℕ × QueueNote)). (k, item slot m) ∷ ws) (items_here o place item ms own k slot is)

pub gone_here : (o : ObjectId) (sofar : List BridgePut) (k slot : ℕ) → place_of o sofar ≡ Some (k, slot) → stream_of o (gone o sofar) ≡ (k, q.Gone slot o) ∷ []
gone_here o sofar k slot place =
    ap (λ (p : Option (ℕ × ℕ)). stream_of o (to_place p (λ slot. q.Gone slot o))) place
    ∙ ap (λ (b : Bool). cond b ((k, q.Gone slot o) ∷ []) [] ++ []) (same_object-itself o)

-- ---- its place is told by its stream

abbrev pub created_pair : ObjectId → ℕ × QueueNote → Option (ℕ × ℕ)
created_pair o x = created_by o x.0 x.1

place_is : (o : ObjectId) (outs : List BridgePut) → place_of o outs ≡ first_said (created_pair o) (stream_of o outs)
place_is o [] = refl
place_is o (out ∷ outs) =
    ap (λ (p : Option (ℕ × ℕ)). option_or (created_in o out) p) (place_is o outs)
    ∙ ap (λ (p : Option (ℕ × ℕ)). option_or p (first_said (created_pair o) (stream_of o outs))) (one out)
    ∙ sym (first_said-append (created_pair o) (put_for o out) (stream_of o outs))
  where
    of_create : (b : Bool) (k slot : ℕ) (object : ObjectId) (make : Make) (tag : ObjectId) → same_object object o ≡ b
        → cond b (Some (k, slot)) None ≡ first_said (created_pair o) (cond b ((k, q.Create slot object make tag) ∷ []) [])
    of_create true k slot object make tag same = ap (λ (b : Bool). option_or (cond b (Some (k, slot)) None) None) (sym same)
    of_create false k slot object make tag same = refl

    none : (b : Bool) (x : ℕ × QueueNote) → created_pair o x ≡ None → None ≡ first_said (created_pair o) (cond b (x ∷ []) [])
    none true x is = sym (ap (λ (p : Option (ℕ × ℕ)). option_or p None) is)
    none false x is = refl

    one : (out : BridgePut) → created_in o out ≡ first_said (created_pair o) (put_for o out)
    one (to_publisher p note) = refl
    one (to_timers note) = refl
    one (to_queue k (q.Create slot object make tag)) = of_create (same_object object o) k slot object make tag refl
    one (to_queue k note) = none (is_of o note) (k, note) refl

-- where its stream begins with its Create, it stands there
pub placed : (o : ObjectId) (outs : List BridgePut) (k slot : ℕ) (make : Make) (tag : ObjectId) (more : List (ℕ × QueueNote))
    → stream_of o outs ≡ (k, q.Create slot o make tag) ∷ more → place_of o outs ≡ Some (k, slot)
placed o outs k slot make tag more is =
    place_is o outs ∙ ap (first_said (created_pair o)) is
    ∙ ap (λ (b : Bool). option_or (cond b (Some (k, slot)) None) (first_said (created_pair o) more)) (same_object-itself o)

-- ---- settling and the ending

settle_stream : (shape : Shape) (o : ObjectId) (es : List BridgeEvent) (e : BridgeEvent) → stream_of o (settle_begins shape es e) ≡ []
settle_stream shape o es e = none_cond o (turns (is_settling shape) es e) (map (λ r. to_publisher r p.Settle) (numbers_below (publishers_of shape))) (each (numbers_below (publishers_of shape)))
  where
    each : (rs : List ℕ) → stream_of o (map (λ r. to_publisher r p.Settle) rs) ≡ []
    each [] = refl
    each (r ∷ rs) = each rs

-- what is for it of what the ending puts is of the links that end
ending_stream : (shape : Shape) (o : ObjectId) (es : List BridgeEvent) (sofar : List BridgePut) (e : BridgeEvent) → stream_of o (ending_comes shape es sofar e)
    ≡ cond (turns (has_ending shape) es e) (stream_of o (flat_map (ended shape es sofar) (live_subs shape es)) ++ stream_of o (flat_map (ended_inbox shape es sofar) (open_inboxes shape es))) []
ending_stream shape o es sofar e =
    let subs : List BridgePut = flat_map (ended shape es sofar) (live_subs shape es) in
    let inboxes : List BridgePut = flat_map (ended_inbox shape es sofar) (open_inboxes shape es) in
    let service : List BridgePut = to_timers t.Fin ∷ [] in
    let queues : List BridgePut = map (λ k. to_queue k q.Fin) (numbers_below (queues_of shape)) in
    let publishers : List BridgePut = map (λ r. to_publisher r p.Fin) (numbers_below (publishers_of shape)) in
    stream_cond o (turns (has_ending shape) es e) (subs ++ inboxes ++ service ++ queues ++ publishers)
    ∙ ap (λ (ws : List (ℕ × QueueNote)). cond (turns (has_ending shape) es e) ws [])
    (more (subs ++ inboxes ++ service ++ queues) publishers (each_publisher (numbers_below (publishers_of shape)))
    ∙ more (subs ++ inboxes ++ service) queues (each_queue (numbers_below (queues_of shape)))
    ∙ more (subs ++ inboxes) service refl
    ∙ stream-append o subs inboxes)
  where
    more : (xs ys : List BridgePut) → stream_of o ys ≡ [] → stream_of o (xs ++ ys) ≡ stream_of o xs
    more xs ys none = stream-append o xs ys ∙ ap (λ (ws : List (ℕ × QueueNote)). stream_of o xs ++ ws) none ∙ append-nil (stream_of o xs)

    each_publisher : (rs : List ℕ) → stream_of o (map (λ r. to_publisher r p.Fin) rs) ≡ []
    each_publisher [] = refl
    each_publisher (r ∷ rs) = each_publisher rs

    each_queue : (ks : List ℕ) → stream_of o (map (λ k. to_queue k q.Fin) ks) ≡ []
    each_queue [] = refl
    each_queue (k ∷ ks) = each_queue ks

-- all that one event puts for it, where this is what ends of it
pub reaction_of : (shape : Shape) (o : ObjectId) (es : List BridgeEvent) (sofar : List BridgePut) (e : BridgeEvent) (over : List (ℕ × QueueNote))
    → stream_of o (flat_map (ended shape es sofar) (live_subs shape es)) ++ stream_of o (flat_map (ended_inbox shape es sofar) (open_inboxes shape es)) ≡ over
    → stream_of o (bridge_reaction shape es sofar e) ≡ stream_of o (answer shape es sofar e) ++ cond (turns (has_ending shape) es e) over []
reaction_of shape o es sofar e over is =
    stream-append o (answer shape es sofar e ++ settle_begins shape es e) (ending_comes shape es sofar e)
    ∙ ap (λ (ws : List (ℕ × QueueNote)). ws ++ stream_of o (ending_comes shape es sofar e))
    (stream-append o (answer shape es sofar e) (settle_begins shape es e) ∙ ap (λ (ws : List (ℕ × QueueNote)). stream_of o (answer shape es sofar e) ++ ws) (settle_stream shape o es e) ∙ append-nil (stream_of o (answer shape es sofar e)))
    ∙ ap (λ (ws : List (ℕ × QueueNote)). stream_of o (answer shape es sofar e) ++ ws) (ending_stream shape o es sofar e ∙ ap (λ (ws : List (ℕ × QueueNote)). cond (turns (has_ending shape) es e) ws []) is)
