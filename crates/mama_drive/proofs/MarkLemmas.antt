-- Marks of the actors for whom an event may wait, where a lane or a mark changes.
use Rattle.std.proofs.Common.{◌≡◌, ◌≢◌, ℕ, zero, suc, ◌<◌, ◌≤◌, Bool, true, false, List, [], ◌∷◌, map, length, get_or, refl, sym, ◌∙◌, ap, subst, ⊎_elim, ◌⊎◌, arith}
use Rattle.std.specs.Prelude.{Option, Some, None, IfSome, IfNone}
use Rattle.std.specs.List.{list_all}
use Rattle.std.specs.BTreeSet.{BTreeSet}
use Rattle.std.proofs.Math.ListN.{set}
use Rattle.std.proofs.lemmas.List.{map-set, get_or-map, get_or_past}
use Rattle.std.proofs.lemmas.Bool.{both_ways, cases_lt}
use Rattle.mama_rules_rounds.specs.World.{is_empty}
use Rattle.mama_drive.specs.Marks.{is_marked, KeepsMarks, AreMarked, IsNextMark, IsNext, IsNextOf}

-- the same lanes
pub marked_same : {V : Type 0} → (marks : BTreeSet ℕ) (old new : List (List V)) → new ≡ old → AreMarked marks old → AreMarked marks new
marked_same {V} marks old new is marked = λ n none. ap (λ (l : List (List V)). get_or l n []) is ∙ marked n none

-- every lane is empty
pub all_empty : {V : Type 0} → (lanes : List (List V)) → ((n : ℕ) → get_or lanes n [] ≡ []) → list_all is_empty lanes ≡ true
all_empty [] none = refl
all_empty ([] ∷ lanes) none = all_empty lanes (λ n. none (suc n))
all_empty ((v ∷ vs) ∷ lanes) none = absurd (omega (arith, ap length (none 0)))

-- nothing waits for any actor but this one
empty_but : {V : Type 0} → (lanes : List (List V)) (p n : ℕ) (lane : List V) → (n ≡ p → lane ≡ []) → (n ≢ p → get_or lanes n [] ≡ []) → get_or (set lanes p lane) n [] ≡ []
empty_but [] p n lane here other = refl
empty_but (l ∷ ls) zero zero lane here other = here refl
empty_but (l ∷ ls) zero (suc n) lane here other = other (λ e. absurd (omega (arith, e)))
empty_but (l ∷ ls) (suc p) zero lane here other = other (λ e. absurd (omega (arith, e)))
empty_but (l ∷ ls) (suc p) (suc n) lane here other = empty_but ls p n lane (λ e. here (ap suc e)) (λ apart. other (λ e. apart (omega (arith, e))))

pub none_waits : {V : Type 0} → (lane : List V) → is_empty lane ≡ true → lane ≡ []
none_waits [] h = refl
none_waits (v ∷ vs) h = cc

module _ {A V : Type 0} (lane_of : A → List V) (seats : List A) (p : ℕ) (y : A) (old new : BTreeSet ℕ) (marked : AreMarked old (map lane_of seats)) where
  marked_set : (is_marked new p ≡ false → lane_of y ≡ []) → ((n : ℕ) → is_marked new n ≡ false → n ≢ p → is_marked old n ≡ false) → AreMarked new (map lane_of (set seats p y))
  marked_set here kept = λ n none.
      ap (λ (l : List (List V)). get_or l n []) (map-set lane_of seats p y)
      ∙ empty_but (map lane_of seats) p n (lane_of y) (λ e. here (subst (λ k. is_marked new k ≡ false) e none)) (λ apart. marked n (kept n none apart))

  -- a mark more
  pub marked_more : is_marked new p ≡ true → KeepsMarks old new → AreMarked new (map lane_of (set seats p y))
  marked_more is kept = marked_set (λ none. absurd (both_ways (is_marked new p) none is)) (λ n none apart. kept n none)

  -- a turn, after which the mark goes where nothing waits any more
  pub marked_turned : (x : A) (quiet : Bool) → p < length seats → x ≡ get_or seats p x → quiet ≡ is_empty (lane_of y) → (lane_of x ≡ [] → lane_of y ≡ [])
      → ((n : ℕ) → is_marked new n ≡ false → (is_marked old n ≡ false) ⊎ ((n ≡ p) × (quiet ≡ true))) → AreMarked new (map lane_of (set seats p y))
  marked_turned x quiet within at is stays kept = marked_set
      (λ none. ⊎_elim (λ (was : is_marked old p ≡ false). stays (ap lane_of at ∙ sym (get_or-map lane_of seats p x [] within) ∙ marked p was))
      (λ (here : (p ≡ p) × (quiet ≡ true)). none_waits (lane_of y) (sym is ∙ here.1)) (kept p none))
      (λ n none apart. ⊎_elim (λ (was : is_marked old n ≡ false). was) (λ (here : (n ≡ p) × (quiet ≡ true)). absurd (apart here.0)) (kept n none))

-- the next that has a mark is the next for which something may wait
pub next_of : {V : Type 0} → (marks : BTreeSet ℕ) (lanes : List (List V)) (from count : ℕ) (r : Option ℕ) → AreMarked marks lanes → count ≡ length lanes
    → IfSome r (λ next. IsNextMark marks from count next) → IfNone r ((n : ℕ) → from ≤ n → n < count → is_marked marks n ≡ false) → IsNextOf lanes from r
next_of marks lanes from count (Some next) marked same some none = record {
  above = some.above;
  below = subst (λ k. next < k) same some.below;
  passed = λ n low high. marked n (some.passed n low high);
}
next_of marks lanes from count None marked same some none =
    λ n low. ⊎_elim (λ (within : n < length lanes). marked n (none n low (subst (λ k. n < k) (sym same) within))) (λ (past : length lanes ≤ n). get_or_past lanes n [] past) (cases_lt n (length lanes))
