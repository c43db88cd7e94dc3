-- The timers that a moment lets tick are those that the code finds among the due moments.
use Rattle.std.specs.Prelude.{Option, None, Some, nat_le, nat_lt}
use Rattle.std.specs.List.{list_any, flat_map, filter, filter_map, take_while, prefix_len, cons_option, AllByRecursion}
use Rattle.std.specs.List.Sorted.{IsStrictlySortedBy}
use Rattle.std.specs.Option.{option_map}
use Rattle.std.specs.Ordering.{is_eq, nat_cmp, ordering_then}
use Rattle.std.specs.BTreeMap.{is_at}
use Rattle.std.proofs.Common.{◌≡◌, ℕ, suc, take, ◌+◌, ◌==◌, Bool, true, false, not, ◌&&◌, ◌||◌, cond, List, [], ◌∷◌, map, refl, sym, ◌∙◌, ap, subst, arith, Less, ⊎_elim}
use Rattle.std.proofs.lemmas.Bool.{and_parts, and_from, both_ways, or_left, or_right, or_cases, eqb-true}
use Rattle.std.proofs.lemmas.Bool.Decides.{nat_tests, same_from_decides}
use Rattle.std.proofs.lemmas.Map.Keys.{sorted_head, sorted_tail}
use Rattle.mama_event.specs.Object.{same_timer}
use Rattle.mama_event.specs.declared.ids.TimerId.{TimerId}
use Rattle.mama_event.specs.declared.shape.Shape.{Shape}
use Rattle.mama_event.specs.declared.to_queue.QueueNote.{QueueNote}
use Rattle.mama_event.specs.declared.to_queue.QueueNote.TheVariants as q
use Rattle.mama_rules_services.specs.Timers.{TimersEvent, has_ending, is_armed, is_live, due, due_moment, comes_first, live_timers, fires_first, firing, place_of, to_place}
use Rattle.mama_timer.specs.declared.table.Row.{Row}
use Rattle.mama_timer.specs.declared.firing.Firing.{Firing}
use Rattle.mama_timer.specs.Order.{timer_cmp, due_cmp}
use Rattle.mama_timer.specs.Rows.{is_listed}
use Rattle.mama_timer.specs.Firing.{fired, fired_row, firing_of, is_due_at, next_key, due_then, row_after, ticked}
use Rattle.mama_slots.specs.Slots.{SlotData}
use Rattle.mama_timer.specs.Stands.{AreListed, Stands}
use Rattle.mama_timer.proofs.Orders.{same_timer-is, same_timer-itself, due_tied, due_ties}
use Rattle.mama_timer.proofs.Sorting.{has, by_number-order, Precedes, IsAscending, ascending_one, ascending-apart, ascending-in_order, apart-filter, has-in_order, has-filter, comes_first-order}
use Rattle.mama_timer.proofs.Live.{has-live, ascending-live, live_came}

-- ---- the due moments that the clock has reached are the first ones

reached_by : ℕ → ℕ × TimerId → Bool
reached_by at key = nat_le key.0 at

later : (at : ℕ) (k j : ℕ × TimerId) → due_cmp k j ≡ Less → nat_le k.0 at ≡ false → nat_le j.0 at ≡ false
later at k j h past = by_cmp (timer_cmp k.1 j.1) h
  where
    by_cmp : (o : _) → ordering_then (nat_cmp k.0 j.0) o ≡ Less → nat_le j.0 at ≡ false
    by_cmp o h = grind (arith, nat_tests)

none_later : (at : ℕ) (k : ℕ × TimerId) (ks : List (ℕ × TimerId)) → AllByRecursion (λ j. due_cmp k j ≡ Less) ks → nat_le k.0 at ≡ false → filter (λ key. nat_le key.0 at) ks ≡ []
none_later at k [] h past = refl
none_later at k (j ∷ ks) h past = ap (λ (b : Bool). cond b (j ∷ filter (λ key. nat_le key.0 at) ks) (filter (λ key. nat_le key.0 at) ks)) (later at k j h.0 past) ∙ none_later at k ks h.1 past

pub reached_are : (at : ℕ) (ks : List (ℕ × TimerId)) → IsStrictlySortedBy due_cmp ks → take_while (λ key. nat_le key.0 at) ks ≡ filter (λ key. nat_le key.0 at) ks
reached_are at [] s = refl
reached_are at (k ∷ ks) s = by_case (nat_le k.0 at) refl (reached_are at ks (sorted_tail due_cmp k ks s))
  where
    one_more : (n : ℕ) → 1 + n ≡ suc n
    one_more n = omega arith

    by_case : (b : Bool) → nat_le k.0 at ≡ b → take_while (λ key. nat_le key.0 at) ks ≡ filter (λ key. nat_le key.0 at) ks
        → take (cond b (1 + prefix_len (λ key. nat_le key.0 at) ks) 0) (k ∷ ks) ≡ cond b (k ∷ filter (λ key. nat_le key.0 at) ks) (filter (λ key. nat_le key.0 at) ks)
    by_case true e ih = ap (λ (n : ℕ). take n (k ∷ ks)) (one_more (prefix_len (λ key. nat_le key.0 at) ks)) ∙ ap (λ (xs : List (ℕ × TimerId)). k ∷ xs) ih
    by_case false e ih = sym (none_later at k ks (sorted_head due_cmp k ks s) e)

module _ (shape : Shape) (es : List TimersEvent) (sofar : List (ℕ × QueueNote)) (moment at : ℕ) (rows : TimerId → Option Row) (slots : SlotData) (dues : List (ℕ × TimerId))
    (yet : has_ending shape es ≡ false) (sorted : IsStrictlySortedBy due_cmp dues)
    (stands : Stands shape es sofar moment rows (is_listed dues) slots) where
  -- the firings of the due moments ks that the clock has reached
  abbrev found : List (ℕ × TimerId) → List Firing
  found ks = filter_map (firing_of rows at) (filter (λ key. nat_le key.0 at) ks)

  abbrev tickers : List Firing → List TimerId
  tickers fs = map (λ f. f.timer) fs

  -- a timer that ticks
  abbrev ticks : TimerId → Bool
  ticks t = is_live shape t es && nat_le (due t es) at

  row_live : (t : TimerId) (r : Row) → rows t ≡ Some r → r.armed ≡ true → is_live shape t es ≡ true
  row_live t r is armed = and_from (is_armed t es) (not (has_ending shape es)) (sym (stands.rows.known t r is).armed ∙ armed) (ap not yet)

  row_due : (t : TimerId) (r : Row) → rows t ≡ Some r → r.armed ≡ true → due t es ≡ r.due
  row_due t r is armed = ap due_moment ((stands.rows.known t r is).terms (row_live t r is armed))

  live_row : (t : TimerId) → is_live shape t es ≡ true → (r : Row) × (rows t ≡ Some r) × (r.armed ≡ true)
  live_row t live = by_row (rows t) refl
    where
      by_row : (o : Option Row) → rows t ≡ o → (r : Row) × (rows t ≡ Some r) × (r.armed ≡ true)
      by_row None e = absurd (both_ways _ (stands.rows.unknown t e) (live_came shape t es live))
      by_row (Some r) e = (r, e, (stands.rows.known t r e).armed ∙ (and_parts (is_armed t es) (not (has_ending shape es)) live).0)

  -- what a firing comes from
  pub record ComesFrom (key : ℕ × TimerId) (f : Firing) : Type 0 where
    pub row : Row
    pub there : rows key.1 ≡ Some row
    pub armed : row.armed ≡ true
    pub due : row.due ≡ key.0
    pub is : f ≡ fired key.1 at row

  one_firing : (f g : Firing) → Some f ≡ Some g → f ≡ g
  one_firing f g h = cc

  comes_from : (key : ℕ × TimerId) (f : Firing) → firing_of rows at key ≡ Some f → ComesFrom key f
  comes_from key f h = by_row (rows key.1) refl h
    where
      by_test : (r : Row) → rows key.1 ≡ Some r → (b : Bool) → (r.armed && r.due == key.0) ≡ b → cond b (Some (fired key.1 at r)) None ≡ Some f → ComesFrom key f
      by_test r e true t h = let parts = and_parts r.armed (r.due == key.0) t in
          record { row = r; there = e; armed = parts.0; due = eqb-true r.due key.0 parts.1; is = sym (one_firing (fired key.1 at r) f h) }
      by_test r e false t h = cc

      by_row : (o : Option Row) → rows key.1 ≡ o → fired_row key.1 key.0 at o ≡ Some f → ComesFrom key f
      by_row None e h = cc
      by_row (Some r) e h = by_test r e (r.armed && r.due == key.0) refl h

  found_here : (key : ℕ × TimerId) (r : Row) → rows key.1 ≡ Some r → r.armed ≡ true → r.due ≡ key.0 → firing_of rows at key ≡ Some (fired key.1 at r)
  found_here key r there armed is_due = ap (fired_row key.1 key.0 at) there ∙ rw (armed, is_due) (itself key.0)
    where
      itself : (n : ℕ) → cond (n == n) (Some (fired key.1 at r)) None ≡ Some (fired key.1 at r)
      itself n = rw (eqb_itself n) refl
        where
          eqb_itself : (n : ℕ) → (n == n) ≡ true
          eqb_itself n = grind (arith, nat_tests)

  -- ---- the tickers are in order

  less_by_due : (k j : ℕ × TimerId) → due_cmp k j ≡ Less → (nat_lt k.0 j.0 || (k.0 == j.0 && comes_first k.1 j.1)) ≡ true
  less_by_due k j h = grind (arith, nat_tests)

  found_due : (key : ℕ × TimerId) (f : Firing) → ComesFrom key f → due key.1 es ≡ key.0
  found_due key f from = row_due key.1 from.row from.there from.armed ∙ from.due

  precedes_found : (k : ℕ × TimerId) (ks : List (ℕ × TimerId)) → due k.1 es ≡ k.0 → AllByRecursion (λ j. due_cmp k j ≡ Less) ks → Precedes (fires_first es) k.1 (tickers (found ks))
  precedes_found k [] is h = tt
  precedes_found k (j ∷ ks) is h = by_reached (nat_le j.0 at) (precedes_found k ks is h.1)
    where
      by_firing : (o : Option Firing) → firing_of rows at j ≡ o → Precedes (fires_first es) k.1 (tickers (found ks)) → Precedes (fires_first es) k.1 (tickers (cons_option o (found ks)))
      by_firing None e ih = ih
      by_firing (Some f) e ih = let from = comes_from j f e in
          (rw (ap (λ (g : Firing). g.timer) from.is, is, found_due j f from) (less_by_due k j h.0), ih)

      by_reached : (b : Bool) → Precedes (fires_first es) k.1 (tickers (found ks))
          → Precedes (fires_first es) k.1 (tickers (filter_map (firing_of rows at) (cond b (j ∷ filter (λ key. nat_le key.0 at) ks) (filter (λ key. nat_le key.0 at) ks))))
      by_reached true ih = by_firing (firing_of rows at j) refl ih
      by_reached false ih = ih

  ascending_found : (ks : List (ℕ × TimerId)) → IsStrictlySortedBy due_cmp ks → IsAscending (fires_first es) (tickers (found ks))
  ascending_found [] s = tt
  ascending_found (k ∷ ks) s = by_reached (nat_le k.0 at) (ascending_found ks (sorted_tail due_cmp k ks s))
    where
      by_firing : (o : Option Firing) → firing_of rows at k ≡ o → IsAscending (fires_first es) (tickers (found ks)) → IsAscending (fires_first es) (tickers (cons_option o (found ks)))
      by_firing None e ih = ih
      by_firing (Some f) e ih = let from = comes_from k f e in
          let P : TimerId → Type 0 = λ t. Precedes (fires_first es) t (tickers (found ks)) in
          (subst P (sym (ap (λ (g : Firing). g.timer) from.is)) (precedes_found k ks (found_due k f from) (sorted_head due_cmp k ks s)), ih)

      by_reached : (b : Bool) → IsAscending (fires_first es) (tickers (found ks))
          → IsAscending (fires_first es) (tickers (filter_map (firing_of rows at) (cond b (k ∷ filter (λ key. nat_le key.0 at) ks) (filter (λ key. nat_le key.0 at) ks))))
      by_reached true ih = by_firing (firing_of rows at k) refl ih
      by_reached false ih = ih

  -- ---- which timers tick

  has_found : (t : TimerId) (ks : List (ℕ × TimerId)) → has t (tickers (found ks)) ≡ true → ticks t ≡ true
  has_found t [] h = cc
  has_found t (k ∷ ks) h = by_reached (nat_le k.0 at) refl (has_found t ks) h
    where
      by_firing : nat_le k.0 at ≡ true → (o : Option Firing) → firing_of rows at k ≡ o → (has t (tickers (found ks)) ≡ true → ticks t ≡ true) → has t (tickers (cons_option o (found ks))) ≡ true → ticks t ≡ true
      by_firing low None e ih h = ih h
      by_firing low (Some f) e ih h = let from = comes_from k f e in ⊎_elim
          (λ (s : same_timer f.timer t ≡ true). let is : k.1 ≡ t = sym (ap (λ (g : Firing). g.timer) from.is) ∙ same_timer-is f.timer t s in
          ap ticks (sym is) ∙ and_from (is_live shape k.1 es) (nat_le (due k.1 es) at) (row_live k.1 from.row from.there from.armed) (ap (λ (n : ℕ). nat_le n at) (found_due k f from) ∙ low))
          ih (or_cases (same_timer f.timer t) (has t (tickers (found ks))) h)

      by_reached : (b : Bool) → nat_le k.0 at ≡ b → (has t (tickers (found ks)) ≡ true → ticks t ≡ true)
          → has t (tickers (filter_map (firing_of rows at) (cond b (k ∷ filter (λ key. nat_le key.0 at) ks) (filter (λ key. nat_le key.0 at) ks)))) ≡ true → ticks t ≡ true
      by_reached true e ih h = by_firing e (firing_of rows at k) refl ih h
      by_reached false e ih h = ih h

  found_has : (t : TimerId) (r : Row) → rows t ≡ Some r → r.armed ≡ true → nat_le r.due at ≡ true → (ks : List (ℕ × TimerId)) → is_listed ks (r.due, t) ≡ true → has t (tickers (found ks)) ≡ true
  found_has t r there armed low [] h = cc
  found_has t r there armed low (k ∷ ks) h = ⊎_elim
      (λ (tie : is_eq (due_cmp (r.due, t) k) ≡ true).
      let P : ℕ × TimerId → Type 0 = λ j. has t (tickers (filter_map (firing_of rows at) (cond (nat_le j.0 at) (j ∷ filter (λ key. nat_le key.0 at) ks) (filter (λ key. nat_le key.0 at) ks)))) ≡ true in
      subst P (due_tied (r.due, t) k tie)
      (rw low (ap (λ (o : Option Firing). has t (tickers (cons_option o (found ks)))) (found_here (r.due, t) r there armed refl) ∙ or_left (same_timer t t) (has t (tickers (found ks))) (same_timer-itself t))))
      (λ more. by_reached (nat_le k.0 at) (found_has t r there armed low ks more))
      (or_cases (is_eq (due_cmp (r.due, t) k)) (is_listed ks (r.due, t)) h)
    where
      by_firing : (o : Option Firing) → has t (tickers (found ks)) ≡ true → has t (tickers (cons_option o (found ks))) ≡ true
      by_firing None ih = ih
      by_firing (Some f) ih = or_right (same_timer f.timer t) (has t (tickers (found ks))) ih

      by_reached : (b : Bool) → has t (tickers (found ks)) ≡ true
          → has t (tickers (filter_map (firing_of rows at) (cond b (k ∷ filter (λ key. nat_le key.0 at) ks) (filter (λ key. nat_le key.0 at) ks)))) ≡ true
      by_reached true ih = by_firing (firing_of rows at k) ih
      by_reached false ih = ih

  ticks_has : (t : TimerId) → ticks t ≡ true → has t (tickers (found dues)) ≡ true
  ticks_has t h =
      let parts = and_parts (is_live shape t es) (nat_le (due t es) at) h in
      let row = live_row t parts.0 in
      found_has t row.0 row.1 row.2 (ap (λ (n : ℕ). nat_le n at) (sym (row_due t row.0 row.1 row.2)) ∙ parts.1) dues ((stands.listed yet).each t row.0 row.1 row.2)

  pub has-found : (t : TimerId) → has t (tickers (found dues)) ≡ ticks t
  has-found t = same_from_decides {P = ticks t ≡ true} (has t (tickers (found dues))) (ticks t) (has_found t dues, ticks_has t) ((λ h. h), (λ h. h))

  swap : (a b : Bool) → (a && b) ≡ (b && a)
  swap true true = refl
  swap true false = refl
  swap false true = refl
  swap false false = refl

  has-firing : (t : TimerId) → has t (firing shape es at) ≡ ticks t
  has-firing t = has-in_order (fires_first es) t (filter (λ timer. nat_le (due timer es) at) (live_timers shape es))
      ∙ has-filter (λ timer. nat_le (due timer es) at) t (live_timers shape es)
      ∙ ap (λ (b : Bool). nat_le (due t es) at && b) (has-live shape t es) ∙ swap (nat_le (due t es) at) (is_live shape t es)

  -- the tickers are those that the definition says, in its order
  pub tickers_are : tickers (found dues) ≡ firing shape es at
  tickers_are = ascending_one (fires_first es) (by_number-order (λ t. due t es)) (tickers (found dues)) (firing shape es at)
      (ascending_found dues sorted)
      (ascending-in_order (fires_first es) (by_number-order (λ t. due t es)) (filter (λ timer. nat_le (due timer es) at) (live_timers shape es))
      (apart-filter (λ timer. nat_le (due timer es) at) (live_timers shape es) (ascending-apart comes_first comes_first-order (live_timers shape es) (ascending-live shape es))))
      (λ t. has-found t ∙ sym (has-firing t))

  -- ---- what is put

  abbrev pub tick_note : Firing → ℕ × QueueNote
  tick_note f = (f.queue, q.Tick f.slot f.timer at)

  notes_found : (ks : List (ℕ × TimerId)) → flat_map (λ timer. to_place (place_of timer sofar) (λ slot. q.Tick slot timer at)) (tickers (found ks)) ≡ map tick_note (found ks)
  notes_found [] = refl
  notes_found (k ∷ ks) = by_reached (nat_le k.0 at) (notes_found ks)
    where
      by_firing : (o : Option Firing) → firing_of rows at k ≡ o → flat_map (λ timer. to_place (place_of timer sofar) (λ slot. q.Tick slot timer at)) (tickers (found ks)) ≡ map tick_note (found ks)
          → flat_map (λ timer. to_place (place_of timer sofar) (λ slot. q.Tick slot timer at)) (tickers (cons_option o (found ks))) ≡ map tick_note (cons_option o (found ks))
      by_firing None e ih = ih
      by_firing (Some f) e ih = let from = comes_from k f e in
          let place : place_of f.timer sofar ≡ Some (f.queue, f.slot) =
          ap (λ (g : Firing). place_of g.timer sofar) from.is ∙ (stands.rows.known k.1 from.row from.there).place ∙ ap (λ (g : Firing). Some (g.queue, g.slot)) (sym from.is) in
          rw place (ap (λ (ps : List (ℕ × QueueNote)). tick_note f ∷ ps) ih)

      by_reached : (b : Bool) → flat_map (λ timer. to_place (place_of timer sofar) (λ slot. q.Tick slot timer at)) (tickers (found ks)) ≡ map tick_note (found ks)
          → flat_map (λ timer. to_place (place_of timer sofar) (λ slot. q.Tick slot timer at)) (tickers (filter_map (firing_of rows at) (cond b (k ∷ filter (λ key. nat_le key.0 at) ks) (filter (λ key. nat_le key.0 at) ks))))
          ≡ map tick_note (filter_map (firing_of rows at) (cond b (k ∷ filter (λ key. nat_le key.0 at) ks) (filter (λ key. nat_le key.0 at) ks)))
      by_reached true ih = by_firing (firing_of rows at k) refl ih
      by_reached false ih = ih

  pub ticks_are : flat_map (λ timer. to_place (place_of timer sofar) (λ slot. q.Tick slot timer at)) (firing shape es at) ≡ map tick_note (found dues)
  ticks_are = ap (flat_map (λ timer. to_place (place_of timer sofar) (λ slot. q.Tick slot timer at))) (sym tickers_are) ∙ notes_found dues

  -- ---- the rows after the firings

  abbrev due_if : Bool → ℕ → Row → Row
  due_if b n w = cond b (due_then n w) w

  rows_found : (t : TimerId) (r : Row) → rows t ≡ Some r → (ks : List (ℕ × TimerId)) (w : Row) → row_after (found ks) t (Some w) ≡ Some (due_if (has t (tickers (found ks))) (at + r.interval) w)
  rows_found t r there [] w = refl
  rows_found t r there (k ∷ ks) w = by_reached (nat_le k.0 at) (rows_found t r there ks)
    where
      twice : (b : Bool) (n : ℕ) (v : Row) → due_if b n (due_then n v) ≡ due_then n v
      twice true n v = refl
      twice false n v = refl

      by_same : (f : Firing) → ComesFrom k f → (b : Bool) → same_timer f.timer t ≡ b → ((v : Row) → row_after (found ks) t (Some v) ≡ Some (due_if (has t (tickers (found ks))) (at + r.interval) v))
          → row_after (found ks) t (cond b (option_map (due_then f.due) (Some w)) (Some w)) ≡ Some (due_if (b || has t (tickers (found ks))) (at + r.interval) w)
      by_same f from true s ih =
          let is : k.1 ≡ t = sym (ap (λ (g : Firing). g.timer) from.is) ∙ same_timer-is f.timer t s in
          let row : Some from.row ≡ Some r = sym from.there ∙ ap rows is ∙ there in
          let same : from.row ≡ r = cc in
          let n : f.due ≡ at + r.interval = ap (λ (g : Firing). g.due) from.is ∙ ap (λ (v : Row). at + v.interval) same in
          ap (λ (m : ℕ). row_after (found ks) t (Some (due_then m w))) n ∙ ih (due_then (at + r.interval) w)
          ∙ ap (λ (v : Row). Some v) (twice (has t (tickers (found ks))) (at + r.interval) w)
      by_same f from false s ih = ih w

      by_firing : (o : Option Firing) → firing_of rows at k ≡ o → ((v : Row) → row_after (found ks) t (Some v) ≡ Some (due_if (has t (tickers (found ks))) (at + r.interval) v))
          → row_after (cons_option o (found ks)) t (Some w) ≡ Some (due_if (has t (tickers (cons_option o (found ks)))) (at + r.interval) w)
      by_firing None e ih = ih w
      by_firing (Some f) e ih = by_same f (comes_from k f e) (same_timer f.timer t) refl ih

      by_reached : (b : Bool) → ((v : Row) → row_after (found ks) t (Some v) ≡ Some (due_if (has t (tickers (found ks))) (at + r.interval) v))
          → row_after (filter_map (firing_of rows at) (cond b (k ∷ filter (λ key. nat_le key.0 at) ks) (filter (λ key. nat_le key.0 at) ks))) t (Some w)
          ≡ Some (due_if (has t (tickers (filter_map (firing_of rows at) (cond b (k ∷ filter (λ key. nat_le key.0 at) ks) (filter (λ key. nat_le key.0 at) ks))))) (at + r.interval) w)
      by_reached true ih = by_firing (firing_of rows at k) refl ih
      by_reached false ih = ih w

  row_after-none : (fs : List Firing) (t : TimerId) → row_after fs t None ≡ None
  row_after-none [] t = refl
  row_after-none (f ∷ fs) t = by_case (same_timer f.timer t) (row_after-none fs t)
    where
      by_case : (b : Bool) → row_after fs t None ≡ None → row_after fs t (cond b (option_map (due_then f.due) None) None) ≡ None
      by_case true ih = ih
      by_case false ih = ih

  ticks_row : (t : TimerId) (r : Row) → rows t ≡ Some r → ticks t ≡ (r.armed && nat_le r.due at)
  ticks_row t r there = by_case r.armed refl
    where
      by_case : (b : Bool) → r.armed ≡ b → ticks t ≡ (b && nat_le r.due at)
      by_case true e = rw (row_live t r there e, row_due t r there e) refl
      by_case false e = rw (sym (stands.rows.known t r there).armed ∙ e) refl

  pub rows_ticked : (t : TimerId) → row_after (found dues) t (rows t) ≡ option_map (ticked at) (rows t)
  rows_ticked t = by_row (rows t) refl
    where
      by_row : (o : Option Row) → rows t ≡ o → row_after (found dues) t o ≡ option_map (ticked at) o
      by_row None e = row_after-none (found dues) t
      by_row (Some r) e = rows_found t r e dues r ∙ ap (λ (b : Bool). Some (due_if b (at + r.interval) r)) (has-found t ∙ ticks_row t r e)

  -- ---- the due moments after the firings

  listed_found : (t : TimerId) (r : Row) → rows t ≡ Some r → (ks : List (ℕ × TimerId)) → has t (tickers (found ks)) ≡ true
      → list_any (λ f. is_at (due_cmp (at + r.interval, t)) (next_key f)) (found ks) ≡ true
  listed_found t r there [] h = cc
  listed_found t r there (k ∷ ks) h = by_reached (nat_le k.0 at) (listed_found t r there ks) h
    where
      by_same : (f : Firing) → ComesFrom k f → (has t (tickers (found ks)) ≡ true → list_any (λ f. is_at (due_cmp (at + r.interval, t)) (next_key f)) (found ks) ≡ true)
          → has t (tickers (f ∷ found ks)) ≡ true → list_any (λ f. is_at (due_cmp (at + r.interval, t)) (next_key f)) (f ∷ found ks) ≡ true
      by_same f from ih h = ⊎_elim
          (λ (s : same_timer f.timer t ≡ true).
          let timer : f.timer ≡ t = same_timer-is f.timer t s in
          let is : k.1 ≡ t = sym (ap (λ (g : Firing). g.timer) from.is) ∙ timer in
          let row : Some from.row ≡ Some r = sym from.there ∙ ap rows is ∙ there in
          let same : from.row ≡ r = cc in
          let n : f.due ≡ at + r.interval = ap (λ (g : Firing). g.due) from.is ∙ ap (λ (v : Row). at + v.interval) same in
          or_left (is_at (due_cmp (at + r.interval, t)) (next_key f)) (list_any (λ f. is_at (due_cmp (at + r.interval, t)) (next_key f)) (found ks))
          (rw (n, timer) (due_ties (at + r.interval, t) (at + r.interval, t) ∙ and_from (at + r.interval == at + r.interval) (same_timer t t) (itself (at + r.interval)) (same_timer-itself t))))
          (λ more. or_right (is_at (due_cmp (at + r.interval, t)) (next_key f)) (list_any (λ f. is_at (due_cmp (at + r.interval, t)) (next_key f)) (found ks)) (ih more))
          (or_cases (same_timer f.timer t) (has t (tickers (found ks))) h)
        where
          itself : (n : ℕ) → (n == n) ≡ true
          itself n = grind (arith, nat_tests)

      by_firing : (o : Option Firing) → firing_of rows at k ≡ o → (has t (tickers (found ks)) ≡ true → list_any (λ f. is_at (due_cmp (at + r.interval, t)) (next_key f)) (found ks) ≡ true)
          → has t (tickers (cons_option o (found ks))) ≡ true → list_any (λ f. is_at (due_cmp (at + r.interval, t)) (next_key f)) (cons_option o (found ks)) ≡ true
      by_firing None e ih h = ih h
      by_firing (Some f) e ih h = by_same f (comes_from k f e) ih h

      by_reached : (b : Bool) → (has t (tickers (found ks)) ≡ true → list_any (λ f. is_at (due_cmp (at + r.interval, t)) (next_key f)) (found ks) ≡ true)
          → has t (tickers (filter_map (firing_of rows at) (cond b (k ∷ filter (λ key. nat_le key.0 at) ks) (filter (λ key. nat_le key.0 at) ks)))) ≡ true
          → list_any (λ f. is_at (due_cmp (at + r.interval, t)) (next_key f)) (filter_map (firing_of rows at) (cond b (k ∷ filter (λ key. nat_le key.0 at) ks) (filter (λ key. nat_le key.0 at) ks))) ≡ true
      by_reached true ih h = by_firing (firing_of rows at k) refl ih h
      by_reached false ih h = ih h

  -- the due moments stay written down, where the next ones are and none that is a timer's is struck out
  pub listed_ticked : (rows' : TimerId → Option Row) (listed' mid : ℕ × TimerId → Bool) → ((t : TimerId) → rows' t ≡ row_after (found dues) t (rows t))
      → ((key : ℕ × TimerId) → mid key ≡ (is_listed dues key || list_any (λ f. is_at (due_cmp key) (next_key f)) (found dues)))
      → ((key : ℕ × TimerId) → is_due_at key.0 (rows' key.1) ≡ true → mid key ≡ true → listed' key ≡ true)
      → AreListed rows' listed'
  listed_ticked rows' listed' mid rows_are mid_is kept = record {
    each = λ t s is armed. kept (s.due, t) (ap (is_due_at s.due) is ∙ and_from s.armed (s.due == s.due) armed (itself s.due))
        (mid_is (s.due, t) ∙ by_row t (rows t) refl s (sym (rows_are t ∙ rows_ticked t) ∙ is) armed);
  }
    where
      itself : (n : ℕ) → (n == n) ≡ true
      itself n = grind (arith, nat_tests)

      by_test : (t : TimerId) (w s : Row) → rows t ≡ Some w → (b : Bool) → (w.armed && nat_le w.due at) ≡ b → due_if b (at + w.interval) w ≡ s → s.armed ≡ true
          → (is_listed dues (s.due, t) || list_any (λ f. is_at (due_cmp (s.due, t)) (next_key f)) (found dues)) ≡ true
      by_test t w s e true h is armed =
          let P : Row → Type 0 = λ v. (is_listed dues (v.due, t) || list_any (λ f. is_at (due_cmp (v.due, t)) (next_key f)) (found dues)) ≡ true in
          subst P is (or_right (is_listed dues (at + w.interval, t)) (list_any (λ f. is_at (due_cmp (at + w.interval, t)) (next_key f)) (found dues))
          (listed_found t w e dues (has-found t ∙ ticks_row t w e ∙ h)))
      by_test t w s e false h is armed =
          let P : Row → Type 0 = λ v. (is_listed dues (v.due, t) || list_any (λ f. is_at (due_cmp (v.due, t)) (next_key f)) (found dues)) ≡ true in
          subst P is (or_left (is_listed dues (w.due, t)) (list_any (λ f. is_at (due_cmp (w.due, t)) (next_key f)) (found dues))
          ((stands.listed yet).each t w e (ap (λ (v : Row). v.armed) is ∙ armed)))

      by_row : (t : TimerId) (o : Option Row) → rows t ≡ o → (s : Row) → option_map (ticked at) o ≡ Some s → s.armed ≡ true
          → (is_listed dues (s.due, t) || list_any (λ f. is_at (due_cmp (s.due, t)) (next_key f)) (found dues)) ≡ true
      by_row t None e s h armed = cc
      by_row t (Some w) e s h armed = by_test t w s e (w.armed && nat_le w.due at) refl (some_is h) armed
        where
          some_is : option_map (ticked at) (Some w) ≡ Some s → ticked at w ≡ s
          some_is h = cc
