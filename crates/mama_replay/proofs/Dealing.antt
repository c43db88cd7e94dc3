-- Lemmas on steps that are dealt to their passes.
use Rattle.std.specs.Prelude.{slice_get, slice_index_or, slice_set, option_map}
use Rattle.std.proofs.Common.{◌≡◌, ℕ, zero, suc, ◌+◌, ◌<◌, Bool, cond, List, [], ◌∷◌, ◌++◌, length, map, take, get_or, refl, sym, ◌∙◌, ap, subst, arith, ⊎_elim, append-nil, append_assoc}
use Rattle.std.proofs.lemmas.Bool.{cases_eq, eq-eqb, ne_eqb}
use Rattle.std.specs.List.{flat_map}
use Rattle.std.specs.Global.{Vec}
use Rattle.std.proofs.lemmas.List.{get_or-set_same, get_or-set_other, get_or-map}
use Rattle.std.proofs.lemmas.List.Concat.{flat_map-append}
use Rattle.mama_journal.specs.Journal.{numbers_below}
use Rattle.mama_journal.specs.Lane.{by_port}
use Rattle.mama_event.specs.declared.publisher_entry.PublisherEntry.{PublisherEntry}
use Rattle.mama_event.specs.declared.to_bridge.BridgeNote.{BridgeNote}
use Rattle.mama_event.specs.declared.to_timers.TimersNote.{TimersNote}
use Rattle.mama_event.specs.declared.to_queue.QueueNote.{QueueNote}
use Rattle.mama_record.specs.RunData.{RunData}
use Rattle.mama_check.specs.declared.verdict.Actor.{Actor}
use Rattle.mama_laws_legal.proofs.Lists.{by_port-append}
use Rattle.mama_check_puts.specs.Puts.{one_for}
use Rattle.mama_replay.specs.declared.step.Step.{Step}
use Rattle.mama_check.specs.declared.verdict.Actor.TheVariants as actor
use Rattle.mama_replay.specs.Passes.{by_itself, by_port_of}
use Rattle.mama_replay.specs.Dealt.{Dealt, port_in, client_dealt, publisher_step, publisher_dealt, taker_step, taker_dealt, clients_dealt, publishers_dealt, queues_dealt, all_dealt}

-- nothing more was dealt
pub dealt_none : (lists : List (List Step)) → Dealt lists lists []
dealt_none lists m = sym (append-nil (slice_index_or lists m []))

-- and then some more
pub dealt_more : (old now new : List (List Step)) (first later : List (ℕ × Step)) → Dealt old now first → Dealt now new later → Dealt old new (first ++ later)
dealt_more old now new first later so_far is m =
    is m ∙ ap (λ (steps : List Step). steps ++ by_port m later) (so_far m)
    ∙ append_assoc (slice_index_or old m []) (by_port m first) (by_port m later)
    ∙ ap (λ (steps : List Step). slice_index_or old m [] ++ steps) (sym (by_port-append m first later))

pub dealt_as : (old new : List (List Step)) (more other : List (ℕ × Step)) → more ≡ other → Dealt old new more → Dealt old new other
dealt_as old new more other is dealt m = dealt m ∙ ap (λ (xs : List (ℕ × Step)). slice_index_or old m [] ++ by_port m xs) is

-- a step that came last in its pass
pub dealt_last : (lists : List (List Step)) (rank : ℕ) (step : Step) (more : List Step) → rank < length lists → more ≡ get_or lists rank [] ++ step ∷ []
    → (m : ℕ) → slice_index_or (slice_set lists rank more) m [] ≡ slice_index_or lists m [] ++ one_for rank step m
dealt_last lists rank step more inside is m = ⊎_elim here apart (cases_eq rank m)
  where
    here : rank ≡ m → slice_index_or (slice_set lists rank more) m [] ≡ slice_index_or lists m [] ++ one_for rank step m
    here same =
        subst (λ (k : ℕ). slice_index_or (slice_set lists rank more) k [] ≡ slice_index_or lists k [] ++ one_for rank step k) same
        (get_or-set_same lists rank more [] inside ∙ is ∙ ap (λ (b : Bool). get_or lists rank [] ++ cond b (step ∷ []) []) (sym (eq-eqb rank rank refl)))

    apart : (rank ≡ m → ⊥) → slice_index_or (slice_set lists rank more) m [] ≡ slice_index_or lists m [] ++ one_for rank step m
    apart other =
        get_or-set_other lists rank m more [] (λ (e : m ≡ rank). other (sym e)) ∙ sym (append-nil (get_or lists m []))
        ∙ ap (λ (b : Bool). get_or lists m [] ++ cond b (step ∷ []) []) (sym (ne_eqb rank m other))

-- one step
pub dealt_one : (old new : List (List Step)) (rank : ℕ) (step : Step) → ((m : ℕ) → slice_index_or new m [] ≡ slice_index_or old m [] ++ one_for rank step m) → Dealt old new ((rank, step) ∷ [])
dealt_one old new rank step is = is

-- ---- the next of an actor's steps

pub client_more : (c : ℕ) (ranks : List ℕ) (k : ℕ) → k < length ranks → client_dealt c (take (k + 1) ranks) ≡ client_dealt c (take k ranks) ++ client_dealt c (get_or ranks k 0 ∷ [])
client_more c [] k low = absurd (omega arith)
client_more c (r ∷ rs) zero low = refl
client_more c (r ∷ rs) (suc k) low =
    let place : suc k + 1 ≡ suc (k + 1) = omega arith in
    ap (λ (n : ℕ). client_dealt c (take n (r ∷ rs))) place ∙ ap (λ (xs : List (ℕ × Step)). (r, by_itself (actor.Client c)) ∷ xs) (client_more c rs k (omega arith))

pub publisher_more : (p : ℕ) (ranks : List ℕ) (journal : List PublisherEntry) (k : ℕ) → k < length ranks
    → publisher_dealt p (take (k + 1) ranks) journal ≡ publisher_dealt p (take k ranks) journal ++ publisher_step p (get_or ranks k 0) (slice_get journal k)
publisher_more p [] journal k low = absurd (omega arith)
publisher_more p (r ∷ rs) [] zero low = refl
publisher_more p (r ∷ rs) [] (suc k) low =
    let place : suc k + 1 ≡ suc (k + 1) = omega arith in
    ap (λ (n : ℕ). publisher_dealt p (take n (r ∷ rs)) []) place
publisher_more p (r ∷ rs) (e ∷ es) zero low = refl
publisher_more p (r ∷ rs) (e ∷ es) (suc k) low =
    let place : suc k + 1 ≡ suc (k + 1) = omega arith in
    ap (λ (n : ℕ). publisher_dealt p (take n (r ∷ rs)) (e ∷ es)) place
    ∙ ap (λ (xs : List (ℕ × Step)). (r, record { actor = actor.Publisher p; port = port_in e }) ∷ xs) (publisher_more p rs es k (omega arith))

pub taker_more : {N : Type 0} (who : Actor) (ranks : List ℕ) (journal : List (ℕ × N)) (k : ℕ) → k < length ranks
    → taker_dealt who (take (k + 1) ranks) journal ≡ taker_dealt who (take k ranks) journal ++ taker_step who (get_or ranks k 0) (option_map (λ e. e.0) (slice_get journal k))
taker_more {N} who [] journal k low = absurd (omega arith)
taker_more {N} who (r ∷ rs) [] zero low = refl
taker_more {N} who (r ∷ rs) [] (suc k) low =
    let place : suc k + 1 ≡ suc (k + 1) = omega arith in
    ap (λ (n : ℕ). taker_dealt {N = N} who (take n (r ∷ rs)) []) place
taker_more {N} who (r ∷ rs) (e ∷ es) zero low = refl
taker_more {N} who (r ∷ rs) (e ∷ es) (suc k) low =
    let place : suc k + 1 ≡ suc (k + 1) = omega arith in
    ap (λ (n : ℕ). taker_dealt {N = N} who (take n (r ∷ rs)) (e ∷ es)) place
    ∙ ap (λ (xs : List (ℕ × Step)). (r, by_port_of who e.0) ∷ xs) (taker_more {N = N} who rs es k (omega arith))

-- ---- the next of the actors

-- what comes of each number below a bound, and of the bound
pub numbers_more : {A : Type 0} (f : ℕ → List A) (n : ℕ) → flat_map f (numbers_below (n + 1)) ≡ flat_map f (numbers_below n) ++ f n
numbers_more f n =
    let place : n + 1 ≡ suc n = omega arith in
    ap (λ (k : ℕ). flat_map f (numbers_below k)) place ∙ flat_map-append f (numbers_below n) (n ∷ []) ∙ ap (λ (xs : List _). flat_map f (numbers_below n) ++ xs) (append-nil (f n))

pub numbers_same : {A : Type 0} (f g : ℕ → List A) → ((m : ℕ) → f m ≡ g m) → (n : ℕ) → flat_map f (numbers_below n) ≡ flat_map g (numbers_below n)
numbers_same f g same zero = refl
numbers_same f g same (suc n) =
    flat_map-append f (numbers_below n) (n ∷ []) ∙ ap (λ (xs : List _). xs ++ (f n ++ [])) (numbers_same f g same n)
    ∙ ap (λ (xs : List _). flat_map g (numbers_below n) ++ (xs ++ [])) (same n) ∙ sym (flat_map-append g (numbers_below n) (n ∷ []))

-- the list at a place, and that of its items
pub listed : {X : Type 0} (lists : List (Vec X)) (k : ℕ) (list : Vec X) → k < length lists → list ≡ get_or lists k list → list.items ≡ slice_index_or (map (λ v. v.items) lists) k []
listed lists k list low is = ap (λ (v : Vec _). v.items) is ∙ sym (get_or-map (λ v. v.items) lists k list [] low)

-- ---- all steps

-- what was dealt to passes that had none, by what was dealt of each actor
pub all_are_dealt : (clients : ℕ) (run : RunData) (ranks : List (List ℕ)) (none two three four five : List (List Step)) (entries : List (List PublisherEntry))
    (bridge : List (ℕ × BridgeNote)) (timers : List (ℕ × TimersNote)) (events : List (List (ℕ × QueueNote))) (count senders queues : ℕ)
    → none ≡ [] → entries ≡ run.publishers → bridge ≡ run.bridge → timers ≡ run.timers → events ≡ run.queues → count ≡ length run.publishers → senders ≡ length run.publishers → queues ≡ length run.queues
    → Dealt none two (clients_dealt ranks clients ++ publishers_dealt ranks clients entries count)
    → Dealt two three (taker_dealt actor.Bridge (slice_index_or ranks (clients + senders) []) bridge)
    → Dealt three four (taker_dealt actor.Timers (slice_index_or ranks (clients + senders + 1) []) timers)
    → Dealt four five (queues_dealt ranks (clients + senders + 2) events queues)
    → (m : ℕ) → slice_index_or five m [] ≡ by_port m (all_dealt clients run ranks)
all_are_dealt clients run ranks none two three four five entries bridge timers events count senders queues at_none at_entries at_bridge at_timers at_events at_count at_senders at_queues lines third fourth fifth =
    let p = λ (es : List (List PublisherEntry)) (n : ℕ). publishers_dealt ranks clients es n in
    let b = λ (js : List (ℕ × BridgeNote)) (n : ℕ). taker_dealt actor.Bridge (slice_index_or ranks (clients + n) []) js in
    let t = λ (js : List (ℕ × TimersNote)) (n : ℕ). taker_dealt actor.Timers (slice_index_or ranks (clients + n + 1) []) js in
    let q = λ (js : List (List (ℕ × QueueNote))) (n count : ℕ). queues_dealt ranks (clients + n + 2) js count in
    let begun = subst (λ (lists : List (List Step)). Dealt lists two (clients_dealt ranks clients ++ p entries count)) at_none lines in
    let sent = ap (λ (es : List (List PublisherEntry)). clients_dealt ranks clients ++ p es count) at_entries ∙ ap (λ (n : ℕ). clients_dealt ranks clients ++ p run.publishers n) at_count in
    let of_lines = dealt_as [] two (clients_dealt ranks clients ++ p entries count) (clients_dealt ranks clients ++ p run.publishers (length run.publishers)) sent begun in
    let of_bridge = dealt_as two three (b bridge senders) (b run.bridge (length run.publishers)) (ap (λ (js : List (ℕ × BridgeNote)). b js senders) at_bridge ∙ ap (b run.bridge) at_senders) third in
    let of_timers = dealt_as three four (t timers senders) (t run.timers (length run.publishers)) (ap (λ (js : List (ℕ × TimersNote)). t js senders) at_timers ∙ ap (t run.timers) at_senders) fourth in
    let of_queues = dealt_as four five (q events senders queues) (q run.queues (length run.publishers) (length run.queues))
    (ap (λ (js : List (List (ℕ × QueueNote))). q js senders queues) at_events ∙ ap (λ (n : ℕ). q run.queues n queues) at_senders ∙ ap (q run.queues (length run.publishers)) at_queues) fifth in
    dealt_more [] four five (clients_dealt ranks clients ++ p run.publishers (length run.publishers) ++ b run.bridge (length run.publishers) ++ t run.timers (length run.publishers)) (q run.queues (length run.publishers) (length run.queues))
    (dealt_more [] three four (clients_dealt ranks clients ++ p run.publishers (length run.publishers) ++ b run.bridge (length run.publishers)) (t run.timers (length run.publishers))
    (dealt_more [] two three (clients_dealt ranks clients ++ p run.publishers (length run.publishers)) (b run.bridge (length run.publishers)) of_lines of_bridge) of_timers) of_queues
