-- When a timer is live, with one entry more; and what of the service's puts is for it.
use Rattle.std.specs.Prelude.{nat_le, Option, None, Some, is_some}
use Rattle.std.specs.List.{flat_map, list_any}
use Rattle.std.specs.Option.{option_or}
use Rattle.std.proofs.Common.{◌≡◌, ℕ, zero, suc, Bool, true, false, cond, List, [], ◌∷◌, ◌++◌, map, filter, refl, sym, ◌∙◌, ap, append-nil}
use Rattle.std.proofs.lemmas.Bool.{and_parts, and_from, or_left, both_ways}
use Rattle.std.proofs.lemmas.List.Elements.{filter-append}
use Rattle.std.proofs.lemmas.List.Folds.{list_any-append}
use Rattle.mama_journal.specs.Journal.{first_said, all_below, turns, numbers_below}
use Rattle.mama_event.specs.declared.ids.TimerId.{TimerId}
use Rattle.mama_event.specs.declared.ids.ObjectId.{ObjectId}
use Rattle.mama_event.specs.declared.ids.ObjectId.TheVariants.{Timer}
use Rattle.mama_event.specs.declared.shape.Shape.{Shape}
use Rattle.mama_event.specs.declared.to_queue.Make.TheVariants as make
use Rattle.mama_event.specs.declared.to_queue.QueueNote.{QueueNote}
use Rattle.mama_event.specs.declared.to_queue.QueueNote.TheVariants as q
use Rattle.mama_event.specs.Ports.{clients_of, queues_of}
use Rattle.mama_event.specs.Object.{same_timer}
use Rattle.mama_rules_services.specs.Timers.{TimersEvent, arms, disarms, now, client_done, bye, fin, no_event, clock, arms_timer, disarms_timer, ends_client, is_fin, has_ending, is_live, all_alive, due, newly_armed, comes_first, fires_first, put_in, in_order, live_timers, firing, created_by, created_in, place_of, to_place, free_slot, gone, answer, ending_comes, timers_reaction}
use Rattle.mama_rules_legal.specs.Streams.{is_of}
use Rattle.mama_laws_legal.proofs.Lives.{same_timer-is, same_timer-itself, any_unchanged, all_below-same}
use Rattle.mama_laws_legal.proofs.Among.{AreIds, is_made, begun_by, only, among_passing, among_alive, own_among}

-- ---- the ending comes with a last word alone, and stays

abbrev pub is_word : TimersEvent → Bool
is_word (client_done c) = true
is_word fin = true
is_word _ = false

no_word : (c : ℕ) (e : TimersEvent) → is_word e ≡ false → (ends_client c e ≡ false) × (is_fin e ≡ false)
no_word c (client_done d) h = absurd (both_ways true h refl)
no_word c fin h = absurd (both_ways true h refl)
no_word c _ h = (refl, refl)

pub ending_same : (shape : Shape) (es : List TimersEvent) (e : TimersEvent) → is_word e ≡ false → has_ending shape (es ++ e ∷ []) ≡ has_ending shape es
ending_same shape es e h = rw (
  all_below-same (clients_of shape) (λ c. list_any (ends_client c) (es ++ e ∷ [])) (λ c. list_any (ends_client c) es) (λ c. any_unchanged (ends_client c) es e (no_word c e h).0),
  any_unchanged is_fin es e (no_word 0 e h).1,
) refl

all_below_more : (n : ℕ) (f g : ℕ → Bool) → ((k : ℕ) → f k ≡ true → g k ≡ true) → all_below n f ≡ true → all_below n g ≡ true
all_below_more zero f g more h = refl
all_below_more (suc n) f g more h =
    let parts = and_parts (all_below n f) (f n) h in
    and_from (all_below n g) (g n) (all_below_more n f g more parts.0) (more n parts.1)

any_more : {X : Type 0} (test : X → Bool) (xs ys : List X) → list_any test xs ≡ true → list_any test (xs ++ ys) ≡ true
any_more test xs ys h = list_any-append test xs ys ∙ or_left (list_any test xs) (list_any test ys) h

pub ending_stays : (shape : Shape) (es fs : List TimersEvent) → has_ending shape es ≡ true → has_ending shape (es ++ fs) ≡ true
ending_stays shape es fs h =
    let parts = and_parts (all_below (clients_of shape) (λ c. list_any (ends_client c) es)) (list_any is_fin es) h in
    and_from (all_below (clients_of shape) (λ c. list_any (ends_client c) (es ++ fs))) (list_any is_fin (es ++ fs))
    (all_below_more (clients_of shape) (λ c. list_any (ends_client c) es) (λ c. list_any (ends_client c) (es ++ fs)) (λ c. any_more (ends_client c) es fs) parts.0)
    (any_more is_fin es fs parts.1)

-- ---- what is for a timer

abbrev pub stream : TimerId → List (ℕ × QueueNote) → List (ℕ × QueueNote)
stream t outs = filter (λ (x : ℕ × QueueNote). is_of (Timer t) x.1) outs

pub stream-append : (t : TimerId) (xs ys : List (ℕ × QueueNote)) → stream t (xs ++ ys) ≡ stream t xs ++ stream t ys
stream-append t xs ys = filter-append (λ (x : ℕ × QueueNote). is_of (Timer t) x.1) xs ys

pub stream_flat : {X : Type 0} (t : TimerId) (f : X → List (ℕ × QueueNote)) (xs : List X) → ((x : X) → stream t (f x) ≡ []) → stream t (flat_map f xs) ≡ []
stream_flat t f [] none = refl
stream_flat t f (x ∷ xs) none = stream-append t (f x) (flat_map f xs) ∙ ap (λ (ws : List (ℕ × QueueNote)). ws ++ stream t (flat_map f xs)) (none x) ∙ stream_flat t f xs none

pub place_other : (t : TimerId) (place : Option (ℕ × ℕ)) (event : ℕ → QueueNote) → ((slot : ℕ) → is_of (Timer t) (event slot) ≡ false) → stream t (to_place place event) ≡ []
place_other t None event other = refl
place_other t (Some place) event other = ap (λ (b : Bool). cond b ((place.0, event place.1) ∷ []) []) (other place.1)

pub gone_here : (t : TimerId) (sofar : List (ℕ × QueueNote)) (k slot : ℕ) → place_of t sofar ≡ Some (k, slot) → stream t (gone sofar t) ≡ (k, q.Gone slot (Timer t)) ∷ []
gone_here t sofar k slot place =
    ap (λ (p : Option (ℕ × ℕ)). stream t (to_place p (λ slot. q.Gone slot (Timer t)))) place
    ∙ ap (λ (b : Bool). cond b ((k, q.Gone slot (Timer t)) ∷ []) []) (same_timer-itself t)

pub tick_here : (t : TimerId) (sofar : List (ℕ × QueueNote)) (m k slot : ℕ) → place_of t sofar ≡ Some (k, slot) → stream t (to_place (place_of t sofar) (λ slot. q.Tick slot t m)) ≡ (k, q.Tick slot t m) ∷ []
tick_here t sofar m k slot place =
    ap (λ (p : Option (ℕ × ℕ)). stream t (to_place p (λ slot. q.Tick slot t m))) place
    ∙ ap (λ (b : Bool). cond b ((k, q.Tick slot t m) ∷ []) []) (same_timer-itself t)

-- ---- its place is told by its stream

place_is : (t : TimerId) (outs : List (ℕ × QueueNote)) → place_of t outs ≡ first_said (created_in t) (stream t outs)
place_is t [] = refl
place_is t (x ∷ outs) = by_case (place_is t outs) (is_of (Timer t) x.1) refl
  where
    none : (k : ℕ) (note : QueueNote) → is_of (Timer t) note ≡ false → created_by (Timer t) k note ≡ None
    none k (q.Create slot object make tag) h = ap (λ (b : Bool). cond b (Some (k, slot)) None) h
    none k _ h = refl

    by_case : place_of t outs ≡ first_said (created_in t) (stream t outs) → (b : Bool) → is_of (Timer t) x.1 ≡ b → option_or (created_in t x) (place_of t outs) ≡ first_said (created_in t) (cond (is_of (Timer t) x.1) (x ∷ stream t outs) (stream t outs))
    by_case rest true is = ap (λ (p : Option (ℕ × ℕ)). option_or (created_in t x) p) rest ∙ ap (λ (b : Bool). first_said (created_in t) (cond b (x ∷ stream t outs) (stream t outs))) (sym is)
    by_case rest false is = ap (λ (p : Option (ℕ × ℕ)). option_or p (place_of t outs)) (none x.0 x.1 is) ∙ rest ∙ ap (λ (b : Bool). first_said (created_in t) (cond b (x ∷ stream t outs) (stream t outs))) (sym is)

-- where its stream begins with its Create, it stands there
pub placed : (t : TimerId) (outs : List (ℕ × QueueNote)) (k slot : ℕ) (tag : ObjectId) (more : List (ℕ × QueueNote))
    → stream t outs ≡ (k, q.Create slot (Timer t) make.Timer tag) ∷ more → place_of t outs ≡ Some (k, slot)
placed t outs k slot tag more is =
    place_is t outs ∙ ap (first_said (created_in t)) is
    ∙ ap (λ (b : Bool). option_or (cond b (Some (k, slot)) None) (first_said (created_in t) more)) (same_timer-itself t)

-- ---- among the live timers it stands once

abbrev timer_made : TimersEvent → Option TimerId
timer_made (arms t queue interval tag) = Some t
timer_made _ = None

timer_ids : AreIds same_timer arms_timer newly_armed timer_made
timer_ids = record { same_is = same_timer-is; begins_made = begins; begun_made = begun }
  where
    said_bool : (b : Bool) (terms : ℕ × ℕ) → is_some (cond b (Some terms) None) ≡ b
    said_bool true terms = refl
    said_bool false terms = refl

    begins : (t : TimerId) (e : TimersEvent) → arms_timer t e ≡ is_made same_timer t (timer_made e)
    begins t (arms r queue interval tag) = said_bool (same_timer r t) (queue, interval)
    begins t _ = refl

    begun : (es : List TimersEvent) (e : TimersEvent) → newly_armed es e ≡ begun_by arms_timer es (timer_made e)
    begun es (arms r queue interval tag) = refl
    begun es _ = refl

abbrev only_timer : {V : Type 0} → TimerId → List V → TimerId → List V
only_timer t ws r = only same_timer t ws r

-- and an order among them changes nothing
only_put : {V : Type 0} (t : TimerId) (ws : List V) (first : TimerId → TimerId → Bool) (a : TimerId) (xs : List TimerId) → flat_map (only_timer t ws) (put_in first a xs) ≡ only_timer t ws a ++ flat_map (only_timer t ws) xs
only_put t ws first a [] = refl
only_put {V} t ws first a (c ∷ cs) = by_case (first a c) (only_put t ws first a cs)
  where
    swap : (x y : Bool) (vs : List V) → cond x ws [] ++ (cond y ws [] ++ vs) ≡ cond y ws [] ++ (cond x ws [] ++ vs)
    swap true true vs = refl
    swap true false vs = refl
    swap false true vs = refl
    swap false false vs = refl

    by_case : (b : Bool) → flat_map (only_timer t ws) (put_in first a cs) ≡ only_timer t ws a ++ flat_map (only_timer t ws) cs
        → flat_map (only_timer t ws) (cond b (a ∷ c ∷ cs) (c ∷ put_in first a cs)) ≡ only_timer t ws a ++ (only_timer t ws c ++ flat_map (only_timer t ws) cs)
    by_case true ih = refl
    by_case false ih = ap (λ (vs : List V). only_timer t ws c ++ vs) ih ∙ swap (same_timer c t) (same_timer a t) (flat_map (only_timer t ws) cs)

only_order : {V : Type 0} (t : TimerId) (ws : List V) (first : TimerId → TimerId → Bool) (xs : List TimerId) → flat_map (only_timer t ws) (in_order first xs) ≡ flat_map (only_timer t ws) xs
only_order t ws first [] = refl
only_order {V} t ws first (x ∷ xs) = only_put t ws first x (in_order first xs) ∙ ap (λ (vs : List V). only_timer t ws x ++ vs) (only_order t ws first xs)

each : (t : TimerId) (f : TimerId → List (ℕ × QueueNote)) → ((r : TimerId) → same_timer r t ≡ false → stream t (f r) ≡ []) → (xs : List TimerId) → stream t (flat_map f xs) ≡ flat_map (only_timer t (stream t (f t))) xs
each t f others xs = own_among same_timer same_timer-is (stream t) refl (stream-append t) t f others xs

passing : {V : Type 0} (shape : Shape) (t : TimerId) (ws : List V) (test : TimerId → Bool) (xs : List TimerId) → flat_map (only_timer t ws) (filter test xs) ≡ cond (test t) (flat_map (only_timer t ws) xs) []
passing shape t ws test xs = among_passing same_timer arms_timer disarms_timer (has_ending shape) newly_armed timer_made timer_ids t ws test xs

only_live : {V : Type 0} (shape : Shape) (t : TimerId) (es : List TimersEvent) (ws : List V) → flat_map (only_timer t ws) (live_timers shape es) ≡ cond (is_live shape t es) ws []
only_live shape t es ws = only_order t ws comes_first (all_alive (is_live shape) newly_armed es)
    ∙ among_alive same_timer arms_timer disarms_timer (has_ending shape) newly_armed timer_made timer_ids t ws es

pub over_live : (shape : Shape) (t : TimerId) (f : TimerId → List (ℕ × QueueNote)) (es : List TimersEvent) → ((r : TimerId) → same_timer r t ≡ false → stream t (f r) ≡ [])
    → stream t (flat_map f (live_timers shape es)) ≡ cond (is_live shape t es) (stream t (f t)) []
over_live shape t f es others = each t f others (live_timers shape es) ∙ only_live shape t es (stream t (f t))

pub over_firing : (shape : Shape) (t : TimerId) (f : TimerId → List (ℕ × QueueNote)) (es : List TimersEvent) (m : ℕ) → ((r : TimerId) → same_timer r t ≡ false → stream t (f r) ≡ [])
    → stream t (flat_map f (firing shape es m)) ≡ cond (is_live shape t es) (cond (nat_le (due t es) m) (stream t (f t)) []) []
over_firing shape t f es m others = each t f others (firing shape es m)
    ∙ only_order t (stream t (f t)) (fires_first es) (filter (λ timer. nat_le (due timer es) m) (live_timers shape es))
    ∙ passing shape t (stream t (f t)) (λ timer. nat_le (due timer es) m) (live_timers shape es)
    ∙ ap (λ (vs : List (ℕ × QueueNote)). cond (nat_le (due t es) m) vs []) (only_live shape t es (stream t (f t))) ∙ swap (nat_le (due t es) m) (is_live shape t es)
  where
    swap : (a b : Bool) → cond a (cond b (stream t (f t)) []) [] ≡ cond b (cond a (stream t (f t)) []) []
    swap true true = refl
    swap true false = refl
    swap false true = refl
    swap false false = refl

-- ---- what one event puts for it, where an arming of it is not the first

abbrev pub ticked : TimerId → List TimersEvent → List (ℕ × QueueNote) → TimersEvent → List (ℕ × QueueNote)
ticked t es sofar (now m) = cond (nat_le (due t es) (clock (es ++ now m ∷ []))) (stream t (to_place (place_of t sofar) (λ slot. q.Tick slot t (clock (es ++ now m ∷ []))))) []
ticked t es sofar _ = []

stream_cond : (t : TimerId) (b : Bool) (xs : List (ℕ × QueueNote)) → stream t (cond b xs []) ≡ cond b (stream t xs) []
stream_cond t true xs = refl
stream_cond t false xs = refl

none_cond : (t : TimerId) (b : Bool) (xs : List (ℕ × QueueNote)) → stream t xs ≡ [] → stream t (cond b xs []) ≡ []
none_cond t true xs none = none
none_cond t false xs none = refl

gone_other : (t r : TimerId) (sofar : List (ℕ × QueueNote)) → same_timer r t ≡ false → stream t (gone sofar r) ≡ []
gone_other t r sofar other = place_other t (place_of r sofar) (λ slot. q.Gone slot (Timer r)) (λ slot. other)

nothing : {V : Type 0} (b : Bool) (vs : List V) → vs ≡ [] → [] ≡ cond b vs []
nothing true vs none = sym none
nothing false vs none = refl

pub answer_stream : (shape : Shape) (t : TimerId) (es : List TimersEvent) (sofar : List (ℕ × QueueNote)) (e : TimersEvent) → (arms_timer t e ≡ true → list_any (arms_timer t) es ≡ true)
    → stream t (answer shape es sofar e) ≡ cond (is_live shape t es) (cond (disarms_timer t e) (stream t (gone sofar t)) (ticked t es sofar e)) []
answer_stream shape t es sofar (arms r queue interval tag) again = by_case (same_timer r t) refl ∙ nothing (is_live shape t es) [] refl
  where
    put : List (ℕ × QueueNote)
    put = (queue, q.Create (free_slot shape es sofar queue) (Timer r) make.Timer tag) ∷ []

    known : (b : Bool) → same_timer r t ≡ b → is_some {T = ℕ × ℕ} (cond (same_timer r t) (Some (queue, interval)) None) ≡ b
    known true same = ap (λ (b : Bool). is_some {T = ℕ × ℕ} (cond b (Some (queue, interval)) None)) same
    known false same = ap (λ (b : Bool). is_some {T = ℕ × ℕ} (cond b (Some (queue, interval)) None)) same

    either : (b : Bool) → stream t put ≡ [] → stream t (cond b [] put) ≡ []
    either true none = refl
    either false none = none

    by_case : (b : Bool) → same_timer r t ≡ b → stream t (cond (list_any (arms_timer r) es) [] put) ≡ []
    by_case true same = ap (λ (b : Bool). stream t (cond b [] put)) (ap (λ (u : TimerId). list_any (arms_timer u) es) (same_timer-is r t same) ∙ again (known true same))
    by_case false same = either (list_any (arms_timer r) es) (ap (λ (b : Bool). cond b ((queue, q.Create (free_slot shape es sofar queue) (Timer r) make.Timer tag) ∷ []) []) same)
answer_stream shape t es sofar (disarms r) again = by_case (same_timer r t) refl
  where
    by_case : (b : Bool) → same_timer r t ≡ b → stream t (cond (is_live shape r es) (gone sofar r) []) ≡ cond (is_live shape t es) (cond (same_timer r t) (stream t (gone sofar t)) []) []
    by_case true same =
        ap (λ (u : TimerId). stream t (cond (is_live shape u es) (gone sofar u) [])) (same_timer-is r t same) ∙ stream_cond t (is_live shape t es) (gone sofar t)
        ∙ ap (λ (b : Bool). cond (is_live shape t es) (cond b (stream t (gone sofar t)) []) []) (sym same)
    by_case false same = none_cond t (is_live shape r es) (gone sofar r) (gone_other t r sofar same) ∙ nothing (is_live shape t es) [] refl
        ∙ ap (λ (b : Bool). cond (is_live shape t es) (cond b (stream t (gone sofar t)) []) []) (sym same)
answer_stream shape t es sofar (now m) again =
    let at : ℕ = clock (es ++ now m ∷ []) in
    over_firing shape t (λ timer. to_place (place_of timer sofar) (λ slot. q.Tick slot timer at)) es at (λ r other. place_other t (place_of r sofar) (λ slot. q.Tick slot r at) (λ slot. other))
answer_stream shape t es sofar (client_done c) again = nothing (is_live shape t es) [] refl
answer_stream shape t es sofar (bye k) again = nothing (is_live shape t es) [] refl
answer_stream shape t es sofar fin again = nothing (is_live shape t es) [] refl
answer_stream shape t es sofar no_event again = nothing (is_live shape t es) [] refl

-- the first arming of it
pub arm_stream : (shape : Shape) (t : TimerId) (es : List TimersEvent) (sofar : List (ℕ × QueueNote)) (queue interval : ℕ) (tag : ObjectId) → list_any (arms_timer t) es ≡ false
    → stream t (answer shape es sofar (arms t queue interval tag)) ≡ (queue, q.Create (free_slot shape es sofar queue) (Timer t) make.Timer tag) ∷ []
arm_stream shape t es sofar queue interval tag new =
    let made : ℕ × QueueNote = (queue, q.Create (free_slot shape es sofar queue) (Timer t) make.Timer tag) in
    ap (λ (b : Bool). stream t (cond b [] (made ∷ []))) new ∙ ap (λ (b : Bool). cond b (made ∷ []) []) (same_timer-itself t)

pub reaction_stream : (shape : Shape) (t : TimerId) (es : List TimersEvent) (sofar : List (ℕ × QueueNote)) (e : TimersEvent)
    → stream t (timers_reaction shape es sofar e) ≡ stream t (answer shape es sofar e) ++ cond (turns (has_ending shape) es e) (cond (is_live shape t es) (stream t (gone sofar t)) []) []
reaction_stream shape t es sofar e =
    let gones : List (ℕ × QueueNote) = flat_map (gone sofar) (live_timers shape es) in
    let fins : List (ℕ × QueueNote) = map (λ k. (k, q.Fin)) (numbers_below (queues_of shape)) in
    stream-append t (answer shape es sofar e) (ending_comes shape es sofar e)
    ∙ ap (λ (ws : List (ℕ × QueueNote)). stream t (answer shape es sofar e) ++ ws)
    (stream_cond t (turns (has_ending shape) es e) (gones ++ fins)
    ∙ ap (λ (ws : List (ℕ × QueueNote)). cond (turns (has_ending shape) es e) ws [])
    (stream-append t gones fins ∙ ap (λ (ws : List (ℕ × QueueNote)). stream t gones ++ ws) (no_fin (numbers_below (queues_of shape))) ∙ append-nil (stream t gones)
    ∙ over_live shape t (gone sofar) es (λ r other. gone_other t r sofar other)))
  where
    no_fin : (ks : List ℕ) → stream t (map (λ k. (k, q.Fin)) ks) ≡ []
    no_fin [] = refl
    no_fin (k ∷ ks) = no_fin ks
