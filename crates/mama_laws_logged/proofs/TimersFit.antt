-- What the timer service puts is of timers that the script declares, in small slots, at moments that fit their type.
use Rattle.std.specs.Prelude.{is_some, option_map, if◌then◌else◌}
use Rattle.std.specs.List.{AllByRecursion, list_any, flat_map, filter}
use Rattle.std.specs.Option.{option_or}
use Rattle.std.proofs.Common.{◌≡◌, ℕ, ◌+◌, ◌*◌, ◌^◌, ◌≤◌, ◌<◌, ◌==◌, eqb, nat_le, Bool, true, false, List, [], ◌∷◌, ◌++◌, length, map, Option, None, Some, refl, subst, arith}
use Rattle.std.proofs.lemmas.Bool.{cond_both}
use Rattle.std.proofs.lemmas.Nat.{mul-add-lt}
use Rattle.mama_journal.specs.Journal.{puts, all_puts, turns, numbers_below}
use Rattle.mama_event.specs.Ports.{queues_of}
use Rattle.mama_event.specs.declared.ids.TimerId.{TimerId}
use Rattle.mama_event.specs.declared.ids.ObjectId.TheVariants.{Timer}
use Rattle.mama_event.specs.declared.shape.Shape.{Shape}
use Rattle.mama_event.specs.declared.to_queue.Make.TheVariants as make
use Rattle.mama_event.specs.declared.to_queue.QueueNote.{QueueNote}
use Rattle.mama_event.specs.declared.to_queue.QueueNote.TheVariants as q
use Rattle.mama_event.specs.Object.{same_timer, same_object}
use Rattle.mama_event.specs.EqualityLaws.{same_timer-Decides}
use Rattle.mama_rules_services.specs.Timers.{TimersEvent, arms, disarms, now, moment_in, clock, last_moment, arms_timer, disarms_timer, has_ending, is_live, newly_armed, comes_first, fires_first, due, put_in, in_order, live_timers, firing, created_by, place_of, to_place, slot_on, free_slot, gone, answer, ending_comes, timers_reaction}
use Rattle.mama_laws_genuine.proofs.Elements.{all_append, all_weaker, all_if, all_flat_map, all_mapped, all_filter, all_puts_after, all_puts_so_far}
use Rattle.mama_log_line.specs.Names.{NamesData, IsTimer, timer_terms_of, make_of}
use Rattle.mama_log_line.specs.Entering.{QueueFromTimers}
use Rattle.mama_laws_logged.proofs.Begun.{alive_says}
use Rattle.mama_laws_logged.proofs.Fits.{Arms}
use Rattle.mama_laws_logged.proofs.Few.{IsFew}
use Rattle.mama_laws_logged.proofs.Once.{at_most_one, of_new, found_none, found_one, apart_ids, few_named, filter_few, flat_map_few, least_free_few}

-- ---- the clock tells no moment past the last

moment_within : (e : TimersEvent) → moment_in e ≤ last_moment
moment_within (now moment) = omega arith
moment_within _ = omega arith

clock_within : (es : List TimersEvent) → clock es ≤ last_moment
clock_within [] = omega arith
clock_within (e ∷ es) = omega (arith, moment_within e, clock_within es)

clock_fits : (es : List TimersEvent) → clock es < 2 ^ 64
clock_fits es = omega (arith, clock_within es)

-- ---- lists in order

in_order_length : {A : Type 0} (first : A → A → Bool) (xs : List A) → length (in_order first xs) ≡ length xs
in_order_length first [] = refl
in_order_length first (x ∷ xs) = omega (arith, put_in_length first x (in_order first xs), in_order_length first xs)
  where
    put_in_length : {A : Type 0} (first : A → A → Bool) (x : A) (xs : List A) → length (put_in first x xs) ≡ length xs + 1
    put_in_length first x [] = omega arith
    put_in_length first x (y ∷ ys) =
        let rest : length (put_in first x ys) ≡ length ys + 1 = put_in_length first x ys in
        cond_both (first x y) (x ∷ y ∷ ys) (y ∷ put_in first x ys) (λ zs. length zs ≡ length (y ∷ ys) + 1) (λ h. omega arith) (λ h. omega (arith, rest))

all_put_in : {A : Type 0} (P : A → Type 0) (first : A → A → Bool) (x : A) (xs : List A) → P x → AllByRecursion P xs → AllByRecursion P (put_in first x xs)
all_put_in P first x [] here all = (here, tt)
all_put_in P first x (y ∷ ys) here all = all_if P (first x y) (x ∷ y ∷ ys) (y ∷ put_in first x ys) (here, all) (all.0, all_put_in P first x ys here all.1)

all_in_order : {A : Type 0} (P : A → Type 0) (first : A → A → Bool) (xs : List A) → AllByRecursion P xs → AllByRecursion P (in_order first xs)
all_in_order P first [] all = tt
all_in_order P first (x ∷ xs) all = all_put_in P first x (in_order first xs) all.0 (all_in_order P first xs all.1)

-- ---- a free slot

abbrev IsSmall : TimerId → Type 0
IsSmall t = (t.client < 64) × (t.number < 1024)

abbrev key : TimerId → ℕ
key t = t.client * 1024 + t.number

small_key : (t : TimerId) → IsSmall t → key t < 65536
small_key t small = mul-add-lt t.client 1024 t.number 64 small.0 small.1

one_timer : (before : List TimersEvent) (e : TimersEvent) → length (newly_armed before e) ≤ 1
one_timer before (arms timer queue interval tag) = at_most_one (list_any (arms_timer timer) before) timer
one_timer before _ = omega arith

fresh_timer : (before : List TimersEvent) (e : TimersEvent) → AllByRecursion (λ t. list_any (arms_timer t) before ≡ false) (newly_armed before e)
fresh_timer before (arms timer queue interval tag) = of_new (λ t. list_any (arms_timer t) before ≡ false) (list_any (arms_timer timer) before) timer (λ none. none)
fresh_timer before _ = tt

apart_timer : (before : List TimersEvent) (e : TimersEvent) (t : TimerId) → IsSmall t → arms_timer t e ≡ false
    → AllByRecursion (λ r. IsSmall r → eqb (key r) (key t) ≡ false) (newly_armed before e)
apart_timer before (arms timer queue interval tag) t small apart =
    of_new (λ r. IsSmall r → eqb (key r) (key t) ≡ false) (list_any (arms_timer timer) before) timer
    (λ none less. apart_ids 1024 timer.client timer.number t.client t.number less.1 small.1 (found_none {A = ℕ × ℕ} (same_timer timer t) (queue, interval) apart))
apart_timer before _ t small apart = tt

slot_at_most_one : (queue : ℕ) (place : Option (ℕ × ℕ)) → length (slot_on queue place) ≤ 1
slot_at_most_one queue None = omega arith
slot_at_most_one queue (Some place) = cond_both (place.0 == queue) (place.1 ∷ []) [] (λ slots. length slots ≤ 1) (λ h. omega arith) (λ h. omega arith)

module _ (names : NamesData) where
  armed_at : (before : List TimersEvent) (e : TimersEvent) → Arms names e → AllByRecursion (IsTimer names) (newly_armed before e)
  armed_at before (arms timer queue interval tag) h = of_new (IsTimer names) (list_any (arms_timer timer) before) timer (λ none. h.0)
  armed_at before _ h = tt

  all_armed : (es : List TimersEvent) → AllByRecursion (Arms names) es → AllByRecursion (IsTimer names) (puts newly_armed es)
  all_armed es all = all_puts_after (Arms names) (IsTimer names) newly_armed armed_at [] es all

  all_live : (shape : Shape) (es : List TimersEvent) → AllByRecursion (Arms names) es → AllByRecursion (IsTimer names) (live_timers shape es)
  all_live shape es all =
      all_in_order (IsTimer names) comes_first (filter (λ timer. is_live shape timer es) (puts newly_armed es))
      (all_filter (IsTimer names) (λ timer. is_live shape timer es) (puts newly_armed es) (all_armed es all))

  all_firing : (shape : Shape) (es : List TimersEvent) (moment : ℕ) → AllByRecursion (Arms names) es → AllByRecursion (IsTimer names) (firing shape es moment)
  all_firing shape es moment all =
      all_in_order (IsTimer names) (fires_first es) (filter (λ timer. nat_le (due timer es) moment) (live_timers shape es))
      (all_filter (IsTimer names) (λ timer. nat_le (due timer es) moment) (live_timers shape es) (all_live shape es all))

  -- what is armed was named by an entry
  arming : (timer : TimerId) (e : TimersEvent) → Arms names e → arms_timer timer e ≡ true → IsTimer names timer
  arming timer (arms r queue interval tag) h found =
      subst (IsTimer names) ((same_timer-Decides r timer).0 (found_one {A = ℕ × ℕ} (same_timer r timer) (queue, interval) found)) h.0
  arming timer _ h found = absurd cc

  live : (shape : Shape) (timer : TimerId) (es : List TimersEvent) → AllByRecursion (Arms names) es → is_live shape timer es ≡ true → IsTimer names timer
  live shape timer es all is = alive_says (Arms names) (IsTimer names timer) (arms_timer timer) (disarms_timer timer) (has_ending shape) (arming timer) es all is

  -- ---- what it puts

  abbrev Fits : ℕ × QueueNote → Type 0
  Fits e = QueueFromTimers names e.1

  abbrev IsSmallPlace : Option (ℕ × ℕ) → Type 0
  IsSmallPlace None = Unit {0}
  IsSmallPlace (Some place) = place.1 < 2 ^ 32

  said : (b : Bool) (queue slot : ℕ) (rest : Option (ℕ × ℕ)) → slot < 2 ^ 32 → IsSmallPlace rest → IsSmallPlace (option_or (if b then Some (queue, slot) else None) rest)
  said true queue slot rest small later = small
  said false queue slot rest small later = later

  created : (timer : TimerId) (queue : ℕ) (note : QueueNote) (rest : Option (ℕ × ℕ)) → QueueFromTimers names note → IsSmallPlace rest
      → IsSmallPlace (option_or (created_by (Timer timer) queue note) rest)
  created timer queue (q.Create slot object make tag) rest fits later = said (same_object object (Timer timer)) queue slot rest fits.0 later
  created timer queue _ rest fits later = later

  place_small : (timer : TimerId) (sofar : List (ℕ × QueueNote)) → AllByRecursion Fits sofar → IsSmallPlace (place_of timer sofar)
  place_small timer [] so = tt
  place_small timer (put ∷ sofar) so = created timer put.0 put.1 (place_of timer sofar) so.0 (place_small timer sofar so.1)

  placed : (place : Option (ℕ × ℕ)) (event : ℕ → QueueNote) → IsSmallPlace place → ((slot : ℕ) → slot < 2 ^ 32 → QueueFromTimers names (event slot))
      → AllByRecursion Fits (to_place place event)
  placed None event small each = tt
  placed (Some place) event small each = (each place.1 small, tt)

  all_gone : (sofar : List (ℕ × QueueNote)) → AllByRecursion Fits sofar → (timer : TimerId) → IsTimer names timer → AllByRecursion Fits (gone sofar timer)
  all_gone sofar so timer is =
      placed (place_of timer sofar) (λ slot. q.Gone slot (Timer timer)) (place_small timer sofar so) (λ slot small. (small, is))

  made : (timer : TimerId) → IsTimer names timer → make_of names (Timer timer) ≡ Some make.Timer
  made timer is = as_timer (timer_terms_of names timer) is.declared
    where
      as_timer : {A : Type 0} (terms : Option A) → is_some terms ≡ true → option_map (λ t. make.Timer) terms ≡ Some make.Timer
      as_timer None found = absurd cc
      as_timer (Some terms) found = refl

  module _ (few : IsFew names) (shape : Shape) where
    few_live : (es : List TimersEvent) → AllByRecursion (Arms names) es → length (live_timers shape es) ≤ 65536
    few_live es all =
        let lives : List TimerId = filter (λ timer. is_live shape timer es) (puts newly_armed es) in
        let sorted : length (live_timers shape es) ≡ length lives = in_order_length comes_first lives in
        let fewer : length lives ≤ length (puts newly_armed es) = filter_few (λ timer. is_live shape timer es) (puts newly_armed es) in
        let all_few : length (puts newly_armed es) ≤ 65536 =
        few_named (Arms names) IsSmall arms_timer key newly_armed
        (record { one = one_timer; sound = λ before e h. all_weaker (IsTimer names) IsSmall few.timers (newly_armed before e) (armed_at before e h); fresh = fresh_timer; apart = apart_timer })
        65536 small_key es all in
        bounded (length (live_timers shape es)) (length lives) (length (puts newly_armed es)) sorted fewer all_few
      where
        bounded : (live lives all : ℕ) → live ≡ lives → lives ≤ all → all ≤ 65536 → live ≤ 65536
        bounded live lives all a b c = omega arith

    slot_small : (before : List TimersEvent) (sofar : List (ℕ × QueueNote)) (queue : ℕ) → AllByRecursion (Arms names) before → free_slot shape before sofar queue < 2 ^ 32
    slot_small before sofar queue all =
        let lives : List TimerId = live_timers shape before in
        let used : List ℕ = flat_map (λ (timer : TimerId). slot_on queue (place_of timer sofar)) lives in
        let one : length used ≤ length lives =
        flat_map_few (λ (timer : TimerId). slot_on queue (place_of timer sofar)) (λ timer. slot_at_most_one queue (place_of timer sofar)) lives in
        small (free_slot shape before sofar queue) (length used) (length lives) (least_free_few used) one (few_live before all)
      where
        small : (slot used lives : ℕ) → slot ≤ used → used ≤ lives → lives ≤ 65536 → slot < 2 ^ 32
        small slot used lives a b c = omega arith

    all_answered : (before : List TimersEvent) (sofar : List (ℕ × QueueNote)) (e : TimersEvent) → AllByRecursion (Arms names) before → AllByRecursion Fits sofar → Arms names e
        → AllByRecursion Fits (answer shape before sofar e)
    all_answered before sofar (arms timer queue interval tag) all so h =
        of_new Fits (list_any (arms_timer timer) before) (queue, q.Create (free_slot shape before sofar queue) (Timer timer) make.Timer tag)
        (λ none. (slot_small before sofar queue all, h.0, made timer h.0, h.1))
    all_answered before sofar (disarms timer) all so h =
        cond_both (is_live shape timer before) (gone sofar timer) [] (AllByRecursion Fits)
        (λ is. all_gone sofar so timer (live shape timer before all is))
        (λ dead. tt)
    all_answered before sofar (now moment) all so h =
        let told : ℕ = clock (before ++ now moment ∷ []) in
        all_flat_map (IsTimer names) Fits (λ (timer : TimerId). to_place (place_of timer sofar) (λ slot. q.Tick slot timer told))
        (λ timer is. placed (place_of timer sofar) (λ slot. q.Tick slot timer told) (place_small timer sofar so)
        (λ slot small. (small, is, clock_fits (before ++ now moment ∷ []))))
        (firing shape before told) (all_firing shape before told all)
    all_answered before sofar _ all so h = tt

    all_ending : (before : List TimersEvent) (sofar : List (ℕ × QueueNote)) (e : TimersEvent) → AllByRecursion (Arms names) before → AllByRecursion Fits sofar
        → AllByRecursion Fits (ending_comes shape before sofar e)
    all_ending before sofar e all so =
        let fins : List (ℕ × QueueNote) = map (λ (k : ℕ). (k, q.Fin)) (numbers_below (queues_of shape)) in
        let ended : List (ℕ × QueueNote) = flat_map (gone sofar) (live_timers shape before) in
        all_if Fits (turns (has_ending shape) before e) (ended ++ fins) []
        (all_append Fits ended fins
        (all_flat_map (IsTimer names) Fits (gone sofar) (all_gone sofar so) (live_timers shape before) (all_live shape before all))
        (all_mapped Fits (λ (k : ℕ). (k, q.Fin)) (λ k. tt) (numbers_below (queues_of shape))))
        tt

pub timers_fit : (names : NamesData) → IsFew names → (shape : Shape) (es : List TimersEvent) → AllByRecursion (Arms names) es
    → AllByRecursion (λ (e : ℕ × QueueNote). QueueFromTimers names e.1) (all_puts (timers_reaction shape) es)
timers_fit names few shape es all =
    all_puts_so_far (Arms names) (Fits names) (timers_reaction shape)
    (λ before sofar e came so h. all_append (Fits names) (answer shape before sofar e) (ending_comes shape before sofar e)
    (all_answered names few shape before sofar e came so h) (all_ending names few shape before sofar e came so))
    [] [] es tt tt all
