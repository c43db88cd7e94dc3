-- Sums over lists of which one element changes.
use Rattle.std.proofs.Common.{◌≡◌, ◌≢◌, ℕ, zero, suc, ◌+◌, ◌≤◌, List, [], ◌∷◌, ◌++◌, set, refl, sym, ap, subst, ⊎_elim, arith}
use mathlib.Core.Option.{some, some-injective, some-ne-none}
use lib.ListN.{get_elem?}
use Rattle.atomic_table.proofs.Lists.{at_set, at_snoc}
use Rattle.mama_pool.specs.Values.{total}

module _ {X : Type 0} where
  pub total-append : (f : X → ℕ) (xs ys : List X) → total f (xs ++ ys) ≡ total f xs + total f ys
  total-append f [] ys = omega arith
  total-append f (x ∷ xs) ys = let h = total-append f xs ys in omega arith

  pub total_last : (f : X → ℕ) (xs : List X) (x : X) → total f (xs ++ x ∷ []) ≡ total f xs + f x
  total_last f xs x = let h = total-append f xs (x ∷ []) in omega arith

  -- one element changes
  pub total_set : (f : X → ℕ) (xs : List X) (i : ℕ) (a b : X) → get_elem? xs i ≡ some a → total f (set xs i b) + f a ≡ total f xs + f b
  total_set f [] i a b e = absurd (some-ne-none a (sym e))
  total_set f (x ∷ xs) zero a b e = let s : f x ≡ f a = ap f (some-injective x a e) in omega arith
  total_set f (x ∷ xs) (suc i) a b e = let h = total_set f xs i a b e in omega arith

  pub total_part : (f : X → ℕ) (xs : List X) (i : ℕ) (a : X) → get_elem? xs i ≡ some a → f a ≤ total f xs
  total_part f [] i a e = absurd (some-ne-none a (sym e))
  total_part f (x ∷ xs) zero a e = let s : f x ≡ f a = ap f (some-injective x a e) in omega arith
  total_part f (x ∷ xs) (suc i) a e = let h = total_part f xs i a e in omega arith

  -- where g is 0 in all, and f is 0 wherever g is, f is 0 in all
  none_total : (g f : X → ℕ) (xs : List X) → total g xs ≡ 0 → ((j : ℕ) (x : X) → get_elem? xs j ≡ some x → g x ≡ 0 → f x ≡ 0) → total f xs ≡ 0
  none_total g f [] none idle = refl
  none_total g f (x ∷ xs) none idle =
      let h = none_total g f xs (omega arith) (λ j. idle (suc j)) in
      let k = idle 0 x refl (omega arith) in omega arith

  -- where an element has all of g, and f is 0 wherever g is, it has all of f
  pub alone_total : (g f : X → ℕ) (xs : List X) (i : ℕ) (a : X) → get_elem? xs i ≡ some a → total g xs ≡ g a → ((j : ℕ) (x : X) → get_elem? xs j ≡ some x → g x ≡ 0 → f x ≡ 0) → total f xs ≡ f a
  alone_total g f [] i a e whole idle = absurd (some-ne-none a (sym e))
  alone_total g f (x ∷ xs) zero a e whole idle =
      let s : x ≡ a = some-injective x a e in
      let p : g x ≡ g a = ap g s in let q : f x ≡ f a = ap f s in
      let h = none_total g f xs (omega arith) (λ j. idle (suc j)) in omega arith
  alone_total g f (x ∷ xs) (suc i) a e whole idle =
      let p = total_part g xs i a e in
      let h = alone_total g f xs i a e (omega arith) (λ j. idle (suc j)) in
      let k = idle 0 x refl (omega arith) in omega arith

-- what holds of each element
abbrev pub Each : {X : Type 0} → (X → Type 0) → List X → Type 0
Each {X} P xs = (i : ℕ) (x : X) → get_elem? xs i ≡ some x → P x

module _ {X : Type 0} (P : X → Type 0) where
  pub each_set : (xs : List X) (i : ℕ) (a : X) → P a → Each P xs → Each P (set xs i a)
  each_set xs i a own others j x e = ⊎_elim (λ (t : (j ≡ i) × (a ≡ x)). subst P t.1 own) (λ (t : (j ≢ i) × (get_elem? xs j ≡ some x)). others j x t.1) (at_set xs i j a x e)

  pub each_last : (xs : List X) (a : X) → P a → Each P xs → Each P (xs ++ a ∷ [])
  each_last xs a own others j x e = ⊎_elim (λ (t : get_elem? xs j ≡ some x). others j x t) (λ (t : a ≡ x). subst P t own) (at_snoc xs a x j e)

  pub each_none : Each P []
  each_none j x e = absurd (some-ne-none x (sym e))

module _ {X : Type 0} where
  -- one element was set, and is there
  pub there : (xs : List X) (i : ℕ) (a b : X) → get_elem? xs i ≡ some a → get_elem? (set xs i b) i ≡ some b
  there [] i a b e = absurd (some-ne-none a (sym e))
  there (x ∷ xs) zero a b e = refl
  there (x ∷ xs) (suc i) a b e = there xs i a b e

  -- another element was set
  pub before_set : (xs : List X) (i j : ℕ) (a b : X) → (j ≡ i → ⊥) → get_elem? (set xs i a) j ≡ some b → get_elem? xs j ≡ some b
  before_set xs i j a b apart e = ⊎_elim (λ (t : (j ≡ i) × (a ≡ b)). absurd (apart t.0)) (λ (t : (j ≢ i) × (get_elem? xs j ≡ some b)). t.1) (at_set xs i j a b e)
