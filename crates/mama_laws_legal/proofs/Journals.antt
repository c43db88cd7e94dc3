-- From what the bridge puts to the journal of a queue.
use Rattle.std.specs.Prelude.{filter, Option, None, Some}
use Rattle.std.specs.List.{flat_map, list_any}
use Rattle.std.proofs.Common.{◌≡◌, ℕ, ◌==◌, Bool, true, false, ◌||◌, cond, List, [], ◌∷◌, ◌++◌, map, refl, sym, ◌∙◌, ap}
use Rattle.std.proofs.lemmas.Bool.{or_parts, or_from, eqb-false, eq-eqb}
use Rattle.std.proofs.lemmas.List.Folds.{list_any-append}
use Rattle.mama_journal.specs.Journal.{all_puts, turns, numbers_below}
use Rattle.mama_journal.specs.Lane.{by_port}
use Rattle.mama_event.specs.declared.ids.ObjectId.{ObjectId}
use Rattle.mama_event.specs.declared.ids.ObjectId.TheVariants.{Timer}
use Rattle.mama_event.specs.declared.ids.TimerId.{TimerId}
use Rattle.mama_event.specs.declared.shape.Shape.{Shape}
use Rattle.mama_event.specs.declared.to_timers.TimersNote.{TimersNote}
use Rattle.mama_event.specs.declared.to_bridge.BridgeNote.{BridgeNote}
use Rattle.mama_event.specs.declared.to_queue.Make.TheVariants as make
use Rattle.mama_event.specs.declared.to_queue.QueueNote.{QueueNote}
use Rattle.mama_event.specs.declared.to_queue.QueueNote.TheVariants as q
use Rattle.mama_event.specs.Ports.{queues_of}
use Rattle.mama_event.specs.Object.{same_object}
use Rattle.mama_rules_services.specs.Bridge.{BridgePut, to_publisher, to_queue, to_timers}
use Rattle.mama_rules_services.specs.Timers.{TimersEvent, arms, disarms, now, timers_puts, timers_reaction, live_timers}
use Rattle.mama_rules_services.specs.Timers as timing
use Rattle.mama_rules_services.specs.Ports.{queue_putter}
use Rattle.mama_rules_rounds.specs.Setting.{queue_part}
use Rattle.mama_rules_legal.specs.Edges.{put_on_queue}
use Rattle.mama_rules_legal.specs.Streams.{is_of, stream_of, events_of}
use Rattle.mama_laws_legal.proofs.Lists.{by_port-append}
use Rattle.mama_journal.specs.EntryLaws.{by_entries, all_puts-push}
use Rattle.mama_laws_legal.proofs.Putters.{by_queue_port}
use Rattle.mama_laws_legal.proofs.Heard.{no_end}

-- ---- the timers put nothing for an object that is no timer

abbrev for_one : ObjectId → ℕ × QueueNote → Bool
for_one s x = is_of s x.1

abbrev pub IsNoTimer : ObjectId → Type 0
IsNoTimer s = (t : TimerId) → same_object (Timer t) s ≡ false

any_flat_none : {X Y : Type 0} (test : Y → Bool) (f : X → List Y) (xs : List X) → ((x : X) → list_any test (f x) ≡ false) → list_any test (flat_map f xs) ≡ false
any_flat_none test f [] none = refl
any_flat_none test f (x ∷ xs) none = list_any-append test (f x) (flat_map f xs) ∙ or_from (list_any test (f x)) (list_any test (flat_map f xs)) (none x) (any_flat_none test f xs none)

timer_place : (s : ObjectId) (place : Option (ℕ × ℕ)) (event : ℕ → QueueNote) → ((slot : ℕ) → is_of s (event slot) ≡ false) → list_any (for_one s) (timing.to_place place event) ≡ false
timer_place s None event none = refl
timer_place s (Some place) event none = or_from (is_of s (event place.1)) false (none place.1) refl

timer_cond : (s : ObjectId) (c : Bool) (xs : List (ℕ × QueueNote)) → list_any (for_one s) xs ≡ false → list_any (for_one s) (cond c xs []) ≡ false
timer_cond s true xs none = none
timer_cond s false xs none = refl

timer_gone : (s : ObjectId) → IsNoTimer s → (sofar : List (ℕ × QueueNote)) (t : TimerId) → list_any (for_one s) (timing.gone sofar t) ≡ false
timer_gone s away sofar t = timer_place s (timing.place_of t sofar) (λ slot. q.Gone slot (Timer t)) (λ slot. away t)

timer_answer : (s : ObjectId) → IsNoTimer s → (shape : Shape) (before : List TimersEvent) (sofar : List (ℕ × QueueNote)) (e : TimersEvent) → list_any (for_one s) (timing.answer shape before sofar e) ≡ false
timer_answer s away shape before sofar (arms t of interval tag) = made (list_any (timing.arms_timer t) before)
  where
    made : (c : Bool) → list_any (for_one s) (cond c [] ((of, q.Create (timing.free_slot shape before sofar of) (Timer t) make.Timer tag) ∷ [])) ≡ false
    made true = refl
    made false = ap (λ (c : Bool). c || false) (away t)
timer_answer s away shape before sofar (disarms t) = timer_cond s (timing.is_live shape t before) (timing.gone sofar t) (timer_gone s away sofar t)
timer_answer s away shape before sofar (now moment) =
    let at : ℕ = timing.clock (before ++ now moment ∷ []) in
    any_flat_none (for_one s) (λ t. timing.to_place (timing.place_of t sofar) (λ slot. q.Tick slot t at)) (timing.firing shape before at)
    (λ t. timer_place s (timing.place_of t sofar) (λ slot. q.Tick slot t at) (λ slot. away t))
timer_answer s away shape before sofar (timing.client_done c) = refl
timer_answer s away shape before sofar (timing.bye k) = refl
timer_answer s away shape before sofar timing.fin = refl
timer_answer s away shape before sofar timing.no_event = refl

timer_fins : (s : ObjectId) (ks : List ℕ) → list_any (for_one s) (map (λ k. (k, q.Fin)) ks) ≡ false
timer_fins s [] = refl
timer_fins s (k ∷ ks) = timer_fins s ks

pub timers_none : (s : ObjectId) → IsNoTimer s → (shape : Shape) (es : List TimersEvent) → list_any (for_one s) (all_puts (timers_reaction shape) es) ≡ false
timers_none s away shape es = by_entries (λ (xs : List TimersEvent). list_any (for_one s) (all_puts (timers_reaction shape) xs) ≡ false) refl
    (λ xs e ih.
    let sofar : List (ℕ × QueueNote) = all_puts (timers_reaction shape) xs in
    let gones : List (ℕ × QueueNote) = flat_map (timing.gone sofar) (live_timers shape xs) in
    let fins : List (ℕ × QueueNote) = map (λ k. (k, q.Fin)) (numbers_below (queues_of shape)) in
    ap (list_any (for_one s)) (all_puts-push (timers_reaction shape) xs e) ∙ list_any-append (for_one s) sofar (timers_reaction shape xs sofar e)
    ∙ or_from (list_any (for_one s) sofar) (list_any (for_one s) (timers_reaction shape xs sofar e)) ih
    (list_any-append (for_one s) (timing.answer shape xs sofar e) (timing.ending_comes shape xs sofar e)
    ∙ or_from (list_any (for_one s) (timing.answer shape xs sofar e)) (list_any (for_one s) (timing.ending_comes shape xs sofar e)) (timer_answer s away shape xs sofar e)
    (timer_cond s (turns (timing.has_ending shape) xs e) (gones ++ fins)
    (list_any-append (for_one s) gones fins ∙ or_from (list_any (for_one s) gones) (list_any (for_one s) fins)
    (any_flat_none (for_one s) (timing.gone sofar) (live_timers shape xs) (timer_gone s away sofar)) (timer_fins s (numbers_below (queues_of shape))))))) es

-- ---- from the bridge's puts to a queue's journal

pub filter_none : (s : ObjectId) (k : ℕ) (xs : List (ℕ × QueueNote)) → list_any (for_one s) xs ≡ false → filter (is_of s) (by_port k xs) ≡ []
filter_none s k [] h = refl
filter_none s k (x ∷ xs) h =
    let parts = or_parts (is_of s x.1) (list_any (for_one s) xs) h in
    by_case (x.0 == k) (filter_none s k xs parts.1) parts.0
  where
    by_case : (c : Bool) → filter (is_of s) (by_port k xs) ≡ [] → is_of s x.1 ≡ false → filter (is_of s) (cond c (x.1 ∷ by_port k xs) (by_port k xs)) ≡ []
    by_case true ih none = ap (λ (c : Bool). cond c (x.1 ∷ filter (is_of s) (by_port k xs)) (filter (is_of s) (by_port k xs))) none ∙ ih
    by_case false ih none = ih

-- where only port n has events of an object, all its events came by port n
pub one_port : (o : ObjectId) (n : ℕ) (journal : List (ℕ × QueueNote)) → ((port : ℕ) → (port ≡ n → ⊥) → filter (is_of o) (by_port port journal) ≡ []) → events_of o journal ≡ filter (is_of o) (by_port n journal)
one_port o n [] none = refl
one_port o n (e ∷ es) none = by_case (is_of o e.1) refl (e.0 == n) refl (one_port o n es rest)
  where
    rest : (port : ℕ) → (port ≡ n → ⊥) → filter (is_of o) (by_port port es) ≡ []
    rest port apart = either_port (e.0 == port) (is_of o e.1) refl (none port apart)
      where
        either_port : (c d : Bool) → is_of o e.1 ≡ d → filter (is_of o) (cond c (e.1 ∷ by_port port es) (by_port port es)) ≡ [] → filter (is_of o) (by_port port es) ≡ []
        either_port false d is h = h
        either_port true false is h = sym (ap (λ (c : Bool). cond c (e.1 ∷ filter (is_of o) (by_port port es)) (filter (is_of o) (by_port port es))) is) ∙ h
        either_port true true is h = absurd (no_end [] e.1 (filter (is_of o) (by_port port es)) (sym (ap (λ (c : Bool). cond c (e.1 ∷ filter (is_of o) (by_port port es)) (filter (is_of o) (by_port port es))) is) ∙ h))

    by_case : (d : Bool) → is_of o e.1 ≡ d → (c : Bool) → (e.0 == n) ≡ c → events_of o es ≡ filter (is_of o) (by_port n es)
        → cond (is_of o e.1) (e.1 ∷ events_of o es) (events_of o es) ≡ filter (is_of o) (cond c (e.1 ∷ by_port n es) (by_port n es))
    by_case d is true at ih = ap (λ (ws : List QueueNote). cond (is_of o e.1) (e.1 ∷ ws) ws) ih
    by_case false is false at ih = ap (λ (c : Bool). cond c (e.1 ∷ events_of o es) (events_of o es)) is ∙ ih
    by_case true is false at ih = absurd (no_end [] e.1 (filter (is_of o) (by_port e.0 es))
        (sym (ap (λ (c : Bool). filter (is_of o) (cond c (e.1 ∷ by_port e.0 es) (by_port e.0 es))) (eq-eqb e.0 e.0 refl) ∙ ap (λ (c : Bool). cond c (e.1 ∷ filter (is_of o) (by_port e.0 es)) (filter (is_of o) (by_port e.0 es))) is)
        ∙ none e.0 (eqb-false e.0 n at)))

-- of what goes to one queue, what is for an object is the part of its stream for that queue
pub part_stream : (o : ObjectId) (k : ℕ) (puts : List BridgePut) → filter (is_of o) (flat_map (queue_part k) puts) ≡ by_port k (stream_of o puts)
part_stream o k [] = refl
part_stream o k (to_publisher p note ∷ puts) = part_stream o k puts
part_stream o k (to_timers note ∷ puts) = part_stream o k puts
part_stream o k (to_queue r note ∷ puts) = by_case (r == k) refl (is_of o note) refl (part_stream o k puts)
  where
    by_case : (c : Bool) → (r == k) ≡ c → (d : Bool) → is_of o note ≡ d → filter (is_of o) (flat_map (queue_part k) puts) ≡ by_port k (stream_of o puts)
        → filter (is_of o) (cond c (note ∷ []) [] ++ flat_map (queue_part k) puts) ≡ by_port k (cond d ((r, note) ∷ []) [] ++ stream_of o puts)
    by_case true at true is ih = ap (λ (c : Bool). cond c (note ∷ filter (is_of o) (flat_map (queue_part k) puts)) (filter (is_of o) (flat_map (queue_part k) puts))) is
        ∙ ap (λ (ws : List QueueNote). note ∷ ws) ih ∙ ap (λ (c : Bool). cond c (note ∷ by_port k (stream_of o puts)) (by_port k (stream_of o puts))) (sym at)
    by_case true at false is ih = ap (λ (c : Bool). cond c (note ∷ filter (is_of o) (flat_map (queue_part k) puts)) (filter (is_of o) (flat_map (queue_part k) puts))) is ∙ ih
    by_case false at true is ih = ih ∙ ap (λ (c : Bool). cond c (note ∷ by_port k (stream_of o puts)) (by_port k (stream_of o puts))) (sym at)
    by_case false at false is ih = ih

from_map : {M : Type 0} (k : ℕ) (f : M → QueueNote) (ms : List M) → by_port k (map (λ m. (k, f m)) ms) ≡ map f ms
from_map k f [] = refl
from_map k f (m ∷ ms) = ap (λ (c : Bool). cond c (f m ∷ by_port k (map (λ m. (k, f m)) ms)) (by_port k (map (λ m. (k, f m)) ms))) (eq-eqb k k refl) ∙ ap (λ (ws : List QueueNote). f m ∷ ws) (from_map k f ms)

pub on_one_queue : {M : Type 0} (k : ℕ) (first last : QueueNote) (f : M → QueueNote) (ms : List M) → by_port k ((k, first) ∷ (map (λ m. (k, f m)) ms ++ (k, last) ∷ [])) ≡ first ∷ (map f ms ++ last ∷ [])
on_one_queue k first last f ms =
    let rest : List (ℕ × QueueNote) = map (λ m. (k, f m)) ms ++ (k, last) ∷ [] in
    ap (λ (c : Bool). cond c (first ∷ by_port k rest) (by_port k rest)) (eq-eqb k k refl)
    ∙ ap (λ (ws : List QueueNote). first ∷ ws) (by_port-append k (map (λ m. (k, f m)) ms) ((k, last) ∷ [])
    ∙ ap (λ (ws : List QueueNote). ws ++ by_port k ((k, last) ∷ [])) (from_map k f ms)
    ∙ ap (λ (c : Bool). map f ms ++ cond c (last ∷ []) []) (eq-eqb k k refl))

-- ---- what a queue took by an object that is no timer came from the bridge

pub other_ports : (s : ObjectId) → IsNoTimer s → (shape : Shape) (bridge : List (ℕ × BridgeNote)) (timers : List (ℕ × TimersNote)) (k : ℕ) (journal : List (ℕ × QueueNote)) (port : ℕ) → (port ≡ 0 → ⊥)
    → by_port port journal ≡ put_on_queue shape bridge timers k (queue_putter port) → filter (is_of s) (by_port port journal) ≡ []
other_ports s away shape bridge timers k journal port apart put = ap (filter (is_of s)) put
    ∙ by_queue_port (λ n who. (n ≡ 0 → ⊥) → filter (is_of s) (put_on_queue shape bridge timers k who) ≡ []) (λ same. absurd (same refl))
    (λ same. filter_none s k (timers_puts shape timers) (timers_none s away shape (timing.heard shape timers))) (λ n past same. refl) port apart
