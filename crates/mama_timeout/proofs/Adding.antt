-- A watch is put behind the others of a new table: it is found by its timer, and all others as they were.
use Rattle.std.proofs.Common.{◌≡◌, ℕ, zero, suc, ◌+◌, ◌<◌, Bool, true, false, cond, List, [], ◌∷◌, ◌++◌, length, map, Option, None, Some, refl, sym, ap, subst, ◌∙◌, append_assoc}
use Rattle.std.specs.Prelude.{◌||◌, ◌==◌, slice_get, vec_len, vec_capacity}
use Rattle.std.specs.List.{list_any, AllByRecursion}
use Rattle.std.proofs.lemmas.List.{map-append}
use Rattle.std.proofs.lemmas.List.Folds.{list_any-append}
use Rattle.indexmap.specs.IndexMap.{IndexMap, get}
use Rattle.mama_event.specs.declared.ids.TimerId.{TimerId}
use Rattle.mama_event.specs.declared.watch.WatchRow.{WatchRow}
use Rattle.mama_event.specs.Object.{same_timer, same_sub}
use Rattle.mama_event.specs.EqualityLaws.{same_timer-Decides}
use Rattle.mama_timeout.specs.declared.table.Watch.{Watch}
use Rattle.mama_timeout.specs.Table.{WatchData, new_watch}
use Rattle.mama_timeout.specs.Kept.{watch_of, IsPlaceOf}
use Rattle.mama_timeout.proofs.Noted.{flip}
use Rattle.mama_timeout.proofs.Placing.{some_same}

-- ---- what stands at a place of a list with one more

split_at : {X : Type 0} (xs : List X) (y : X) (k : ℕ) (x : X) → slice_get (xs ++ y ∷ []) k ≡ Some x → (R : Type 0) → (slice_get xs k ≡ Some x → R) → (k ≡ length xs → y ≡ x → R) → R
split_at [] y zero x at R left right = right refl (some_same y x at)
split_at [] y (suc k) x at R left right = absurd cc
split_at (z ∷ zs) y zero x at R left right = left at
split_at (z ∷ zs) y (suc k) x at R left right = split_at zs y k x at R left (λ e f. right (ap (λ (n : ℕ). suc n) e) f)

at_last : {X : Type 0} (xs : List X) (y : X) → slice_get (xs ++ y ∷ []) (length xs) ≡ Some y
at_last [] y = refl
at_last (x ∷ xs) y = at_last xs y

at_before : {X : Type 0} (xs : List X) (y : X) (k : ℕ) (x : X) → slice_get xs k ≡ Some x → slice_get (xs ++ y ∷ []) k ≡ Some x
at_before [] y k x at = absurd cc
at_before (z ∷ zs) y zero x at = at
at_before (z ∷ zs) y (suc k) x at = at_before zs y k x at

-- ---- the places

abbrev pub is_timed : TimerId → List Watch → Bool
is_timed t watches = list_any (λ (w : Watch). same_timer w.row.timer t) watches

timed_at : (t : TimerId) (watches : List Watch) (k : ℕ) (w : Watch) → slice_get watches k ≡ Some w → same_timer w.row.timer t ≡ true → is_timed t watches ≡ true
timed_at t [] k w at same = absurd cc
timed_at t (v ∷ vs) zero w at same = ap (λ (b : Bool). b || is_timed t vs) (ap (λ (x : Watch). same_timer x.row.timer t) (some_same v w at) ∙ same)
timed_at t (v ∷ vs) (suc k) w at same = ap (λ (b : Bool). same_timer v.row.timer t || b) (timed_at t vs k w at same) ∙ last (same_timer v.row.timer t)
  where
    last : (b : Bool) → (b || true) ≡ true
    last true = refl
    last false = refl

untimed_more : (t : TimerId) (watches : List Watch) (h : Watch) → is_timed t watches ≡ false → same_timer h.row.timer t ≡ false → is_timed t (watches ++ h ∷ []) ≡ false
untimed_more t watches h none here =
    list_any-append (λ (w : Watch). same_timer w.row.timer t) watches (h ∷ [])
    ∙ ap (λ (b : Bool). b || (same_timer h.row.timer t || false)) none
    ∙ ap (λ (b : Bool). b || false) here

module _ (watches : List Watch) (h : Watch) (t : TimerId) where
  own : is_timed t watches ≡ false → same_timer h.row.timer t ≡ true → IsPlaceOf t (watches ++ h ∷ []) (Some (length watches))
  own none same = (
    h,
    at_last watches h,
    same,
    λ j v found v_same.
        split_at watches h j v found (j ≡ length watches) (λ at. let bad : true ≡ false = sym (timed_at t watches j v at v_same) ∙ none in absurd cc) (λ e f. e),
  )

  other : (old : Option ℕ) → same_timer h.row.timer t ≡ false → IsPlaceOf t watches old → IsPlaceOf t (watches ++ h ∷ []) old
  other None lacks none = untimed_more t watches h none lacks
  other (Some k) lacks (w, there, same, only) = (
    w,
    at_before watches h k w there,
    same,
    λ j v found v_same.
        split_at watches h j v found (j ≡ k) (λ at. only j v at v_same)
        (λ e f. let bad : false ≡ true = sym lacks ∙ ap (λ (x : Watch). same_timer x.row.timer t) f ∙ v_same in absurd cc),
  )

  placed_new : (old : Option ℕ) → (same_timer h.row.timer t ≡ true → is_timed t watches ≡ false) → IsPlaceOf t watches old
      → IsPlaceOf t (watches ++ h ∷ []) (cond (same_timer h.row.timer t) (Some (length watches)) old)
  placed_new old apart placed = by (same_timer h.row.timer t) refl
    where
      by : (b : Bool) → same_timer h.row.timer t ≡ b → IsPlaceOf t (watches ++ h ∷ []) (cond b (Some (length watches)) old)
      by true e = own (apart e) e
      by false e = other old e placed

-- each watch is found, and has room for a note
pub record IsBegun {T : Type 0} (watches : List Watch) (places : IndexMap TimerId ℕ T) : Type 0 where
  pub placed : (t : TimerId) → IsPlaceOf t watches (get same_timer places t)
  pub ready : (k : ℕ) (w : Watch) → slice_get watches k ≡ Some w → vec_len w.notes < vec_capacity w.notes

-- the timers of these rows are not among the watches
abbrev pub AreOther : List Watch → List (ℕ × WatchRow) → Type 0
AreOther watches rows = AllByRecursion (λ (v : ℕ × WatchRow). is_timed v.1.timer watches ≡ false) rows

pub begun_none : {T : Type 0} (places : IndexMap TimerId ℕ T) → ((t : TimerId) → get same_timer places t ≡ None) → IsBegun [] places
begun_none places none = record { placed = λ t. subst (IsPlaceOf t []) (sym (none t)) refl; ready = λ k w at. absurd cc }

pub others_none : (rows : List (ℕ × WatchRow)) → AreOther [] rows
others_none [] = tt
others_none (r ∷ rs) = (refl, others_none rs)

module _ {T : Type 0} (watches : List Watch) (h : Watch) (places after : IndexMap TimerId ℕ T) where
  pub begun_more : ((t : TimerId) → get same_timer after t ≡ cond (same_timer h.row.timer t) (Some (length watches)) (get same_timer places t))
      → is_timed h.row.timer watches ≡ false → vec_len h.notes < vec_capacity h.notes → IsBegun watches places → IsBegun (watches ++ h ∷ []) after
  begun_more written none roomy begun = record {
    placed = λ t.
        subst (IsPlaceOf t (watches ++ h ∷ [])) (sym (written t))
        (placed_new watches h t (get same_timer places t) (λ same. ap (λ (u : TimerId). is_timed u watches) (sym ((same_timer-Decides h.row.timer t).0 same)) ∙ none) (begun.placed t));
    ready = λ k w found. split_at watches h k w found (vec_len w.notes < vec_capacity w.notes) (λ at. begun.ready k w at) (λ e f. subst (λ (x : Watch). vec_len x.notes < vec_capacity x.notes) f roomy);
  }

pub others_more : (watches : List Watch) (h : Watch) (row : ℕ × WatchRow) (rows : List (ℕ × WatchRow)) → h.row ≡ row.1
    → AllByRecursion (λ (v : ℕ × WatchRow). ((v.0 == row.0) ≡ false) × (same_sub v.1.sub row.1.sub ≡ false) × (same_timer v.1.timer row.1.timer ≡ false)) rows → AreOther watches rows → AreOther (watches ++ h ∷ []) rows
others_more watches h row [] is apart others = tt
others_more watches h row (v ∷ vs) is apart others = (
  untimed_more v.1.timer watches h others.0 (ap (λ (r : WatchRow). same_timer r.timer v.1.timer) is ∙ flip v.1.timer row.1.timer false apart.0.2),
  others_more watches h row vs is apart.1 others.1,
)

-- what is still to be put is put next
pub put_next : (done : List Watch) (h : Watch) (row : ℕ × WatchRow) (rows : List (ℕ × WatchRow)) (all : List WatchData) → watch_of h ≡ new_watch row
    → map watch_of done ++ map new_watch (row ∷ rows) ≡ all → map watch_of (done ++ h ∷ []) ++ map new_watch rows ≡ all
put_next done h row rows all is before =
    ap (λ (xs : List WatchData). xs ++ map new_watch rows) (map-append watch_of done (h ∷ []))
    ∙ append_assoc (map watch_of done) (watch_of h ∷ []) (map new_watch rows)
    ∙ ap (λ (x : WatchData). map watch_of done ++ x ∷ map new_watch rows) is
    ∙ before
