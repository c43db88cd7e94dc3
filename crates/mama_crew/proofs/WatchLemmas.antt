-- The watches of a script that are on a queue are apart.
use Rattle.std.specs.Global.{Vec}
use Rattle.std.specs.List.{AllByRecursion, slice_get}
use Rattle.std.proofs.Common.{◌≡◌, ◌⊎◌, ℕ, zero, suc, ◌<◌, Bool, true, false, ◌==◌, cond, List, [], ◌∷◌, ◌++◌, length, map, filter, Some, inl, inr, refl, sym, ◌∙◌, ap, subst, arith}
use Rattle.std.proofs.lemmas.Bool.{or_parts, false_from_ne_true, eqb-true}
use Rattle.std.proofs.lemmas.List.{length-append, length-map, map-append}
use Rattle.mama_journal.specs.Journal.{numbers_below}
use Rattle.mama_event.specs.Object.{same_sub, same_timer}
use Rattle.mama_event.specs.declared.ids.SubId.{SubId}
use Rattle.mama_event.specs.declared.ids.TimerId.{TimerId}
use Rattle.mama_event.specs.declared.ids.ObjectId.TheVariants.{Sub, Timer}
use Rattle.mama_event.specs.declared.watch.WatchRow.{WatchRow}
use Rattle.mama_words.specs.Id.{sub_word, timer_word}
use Rattle.mama_script.specs.Placing.{same_id, has_id}
use Rattle.mama_script.specs.Script.{ScriptData}
use Rattle.mama_script.specs.Within.{IsWithin, AreIdsApart, watched_subs, watched_timers}
use Rattle.mama_rules_rounds.specs.Client.{Planned}
use Rattle.mama_rules_rounds.specs.Setting.{Watched, is_on}
use Rattle.mama_rules_rounds.specs.Sections.{setting_of, planned_in, queue_of, watches_from}
use Rattle.mama_plans.specs.Lists.{watch_row, watches_on, watches_on_each}
use Rattle.mama_dispatch.proofs.DeedLemmas.{same_object-sym}
use Rattle.mama_timeout.specs.Table.{AreApart}

sub_swap : (a b : SubId) → same_sub a b ≡ same_sub b a
sub_swap a b = same_object-sym (Sub a) (Sub b)

timer_swap : (a b : TimerId) → same_timer a b ≡ same_timer b a
timer_swap a b = same_object-sym (Timer a) (Timer b)

later_number : (n m : ℕ) → n < m → (m == n) ≡ false
later_number n m less = false_from_ne_true (m == n) (λ same. let is = eqb-true m n same in omega (arith, less, is))

-- a watch has another number, subscription and timer than one of this number and row
abbrev IsApartFrom : ℕ → WatchRow → ℕ × WatchRow → Type 0
IsApartFrom n row v = ((v.0 == n) ≡ false) × (same_sub v.1.sub row.sub ≡ false) × (same_timer v.1.timer row.timer ≡ false)

one_more : (P : ℕ × WatchRow → Type 0) (b : Bool) (first : Watched) (rest : List Watched) → P (watch_row first) → AllByRecursion P (map watch_row rest) → AllByRecursion P (map watch_row (cond b (first ∷ rest) rest))
one_more P true first rest here later = (here, later)
one_more P false first rest here later = later

apart_more : (b : Bool) (first : Watched) (rest : List Watched) → AllByRecursion (IsApartFrom first.number first.row) (map watch_row rest) → AreApart (map watch_row rest)
    → AreApart (map watch_row (cond b (first ∷ rest) rest))
apart_more true first rest here later = (here, later)
apart_more false first rest here later = later

abbrev numbered_as : List Planned → ℕ → WatchRow → Watched
numbered_as objects n row = record { number = n; queue = queue_of objects (Timer row.timer); row = row }

module _ (objects : List Planned) (q : ℕ) where
  apart_from : (n m : ℕ) (row : WatchRow) (rows : List WatchRow) → n < m → has_id (sub_word row.sub) (watched_subs rows) ≡ false → has_id (timer_word row.timer) (watched_timers rows) ≡ false
      → AllByRecursion (IsApartFrom n row) (map watch_row (filter (is_on q) (watches_from objects m rows)))
  apart_from n m row [] less subs timers = tt
  apart_from n m row (r ∷ rows) less subs timers =
      let sub = or_parts (same_id (sub_word row.sub) (sub_word r.sub)) (has_id (sub_word row.sub) (watched_subs rows)) subs in
      let timer = or_parts (same_id (timer_word row.timer) (timer_word r.timer)) (has_id (timer_word row.timer) (watched_timers rows)) timers in
      one_more (IsApartFrom n row) (queue_of objects (Timer r.timer) == q) (numbered_as objects m r) (filter (is_on q) (watches_from objects (suc m) rows))
      (later_number n m less, sub_swap r.sub row.sub ∙ sub.0, timer_swap r.timer row.timer ∙ timer.0)
      (apart_from n (suc m) row rows (omega (arith, less)) sub.1 timer.1)

  apart_on : (n : ℕ) (rows : List WatchRow) → AreIdsApart (watched_subs rows) → AreIdsApart (watched_timers rows) → AreApart (map watch_row (filter (is_on q) (watches_from objects n rows)))
  apart_on n [] subs timers = tt
  apart_on n (r ∷ rows) subs timers =
      apart_more (queue_of objects (Timer r.timer) == q) (numbered_as objects n r) (filter (is_on q) (watches_from objects (suc n) rows))
      (apart_from n (suc n) r rows (omega arith) subs.0 timers.0) (apart_on (suc n) rows subs.1 timers.1)

-- the watches of a script on a queue are apart
pub watches_apart : (script : ScriptData) (q : ℕ) → IsWithin script → AreApart (watches_on (setting_of script).watches q)
watches_apart script q within = apart_on (planned_in script) q 0 script.watches within.watched within.timed

-- ---- the lists of watches, one of each queue

last_at : {X : Type 0} (xs : List X) (x y : X) (k : ℕ) → slice_get (xs ++ x ∷ []) k ≡ Some y → (slice_get xs k ≡ Some y) ⊎ ((k ≡ length xs) × (y ≡ x))
last_at [] x y zero at = let is : x ≡ y = cc at in inr (refl, sym is)
last_at [] x y (suc k) at = absurd (cc at)
last_at (z ∷ zs) x y zero at = inl at
last_at {X} (z ∷ zs) x y (suc k) at = later (last_at zs x y k at)
  where
    later : (slice_get zs k ≡ Some y) ⊎ ((k ≡ length zs) × (y ≡ x)) → (slice_get zs k ≡ Some y) ⊎ ((suc k ≡ suc (length zs)) × (y ≡ x))
    later (inl h) = inl h
    later (inr h) = inr (ap suc h.0, h.1)

count_below : (n : ℕ) → length (numbers_below n) ≡ n
count_below zero = refl
count_below (suc n) = length-append (numbers_below n) (n ∷ []) ∙ omega (arith, count_below n)

made_at : {X : Type 0} (f : ℕ → X) (n k : ℕ) (y : X) → slice_get (map f (numbers_below n)) k ≡ Some y → y ≡ f k
made_at f zero k y at = absurd (cc at)
made_at {X} f (suc n) k y at =
    either (made_at f n k y) (last_at (map f (numbers_below n)) (f n) y k (subst (λ (xs : List X). slice_get xs k ≡ Some y) (map-append f (numbers_below n) (n ∷ [])) at))
  where
    either : (slice_get (map f (numbers_below n)) k ≡ Some y → y ≡ f k) → (slice_get (map f (numbers_below n)) k ≡ Some y) ⊎ ((k ≡ length (map f (numbers_below n))) × (y ≡ f n)) → y ≡ f k
    either before (inl h) = before h
    either before (inr h) = h.1 ∙ ap f (sym (h.0 ∙ length-map (numbers_below n) f ∙ count_below n))

items_at : (lists : List (Vec (ℕ × WatchRow))) (k : ℕ) (list : Vec (ℕ × WatchRow)) → slice_get lists k ≡ Some list → slice_get (map (λ (l : Vec (ℕ × WatchRow)). l.items) lists) k ≡ Some list.items
items_at [] k list at = absurd (cc at)
items_at (l ∷ ls) zero list at = let is : l ≡ list = cc at in ap (λ (v : Vec (ℕ × WatchRow)). Some v.items) is
items_at (l ∷ ls) (suc k) list at = items_at ls k list at

pub lists_count : (lists : List (Vec (ℕ × WatchRow))) (watches : List Watched) (n : ℕ) → map (λ (l : Vec (ℕ × WatchRow)). l.items) lists ≡ watches_on_each n watches → length lists ≡ n
lists_count lists watches n are =
    sym (length-map lists (λ (l : Vec (ℕ × WatchRow)). l.items)) ∙ ap length are ∙ length-map (numbers_below n) (watches_on watches) ∙ count_below n

pub list_at : (lists : List (Vec (ℕ × WatchRow))) (watches : List Watched) (n k : ℕ) (list : Vec (ℕ × WatchRow)) → map (λ (l : Vec (ℕ × WatchRow)). l.items) lists ≡ watches_on_each n watches
    → slice_get lists k ≡ Some list → list.items ≡ watches_on watches k
list_at lists watches n k list are at =
    made_at (watches_on watches) n k list.items (subst (λ (xs : List (List (ℕ × WatchRow))). slice_get xs k ≡ Some list.items) are (items_at lists k list at))
