-- Lists of a lane: what came by one port, lists by `get_elem?`, facts of each element, a function changed at one number.
use Rattle.std.proofs.Common.{◌≡◌, ◌≢◌, ℕ, zero, suc, ◌+◌, Bool, true, false, cond, eqb, eq-eqb, ne_eqb, List, [], ◌∷◌, ◌++◌, length, set, sym, refl, ap, ◌∙◌, subst, ◌⊎◌, inl, inr, ⊎_elim}
use Rattle.std.specs.List.{AllByRecursion}
use mathlib.Core.Logic.{dite}
use mathlib.Core.Option.{some, some-injective, some-ne-none}
use native.Mathlib.Decide.{ℕ_discrete}
use lib.ListN.{get_elem?}
use Rattle.mama_journal.specs.Lane.{by_port}
use Rattle.mama_lane.specs.Rule.{IsThere}

pub by_port-append : {N : Type 0} (p : ℕ) (xs ys : List (ℕ × N)) → by_port p (xs ++ ys) ≡ by_port p xs ++ by_port p ys
by_port-append p [] ys = refl
by_port-append {N} p (x ∷ xs) ys =
    let C : Bool → Type 0 = λ b. cond b (x.1 ∷ by_port p (xs ++ ys)) (by_port p (xs ++ ys)) ≡ cond b (x.1 ∷ by_port p xs) (by_port p xs) ++ by_port p ys in
    elim (eqb x.0 p) as C [ true ↦ ap (λ (l : List N). x.1 ∷ l) (by_port-append p xs ys) | false ↦ by_port-append p xs ys ]

pub by_port_here : {N : Type 0} (p : ℕ) (x : N) → by_port p ((p, x) ∷ []) ≡ x ∷ []
by_port_here {N} p x = ap (λ (b : Bool). cond b (x ∷ []) []) (eq-eqb p p refl)

pub by_port_else : {N : Type 0} (p q : ℕ) (x : N) → q ≢ p → by_port p ((q, x) ∷ []) ≡ []
by_port_else {N} p q x apart = ap (λ (b : Bool). cond b (x ∷ []) []) (ne_eqb q p apart)

-- facts of each element
pub each_map : {A : Type 0} (P Q : A → Type 0) → ((x : A) → P x → Q x) → (xs : List A) → AllByRecursion P xs → AllByRecursion Q xs
each_map P Q f [] h = tt
each_map P Q f (x ∷ xs) h = (f x h.0, each_map P Q f xs h.1)

pub each_both : {A : Type 0} (P Q S : A → Type 0) → ((x : A) → P x → Q x → S x) → (xs : List A) → AllByRecursion P xs → AllByRecursion Q xs → AllByRecursion S xs
each_both P Q S f [] h k = tt
each_both P Q S f (x ∷ xs) h k = (f x h.0 k.0, each_both P Q S f xs h.1 k.1)

pub each_snoc : {A : Type 0} (P : A → Type 0) (xs : List A) (x : A) → AllByRecursion P xs → P x → AllByRecursion P (xs ++ x ∷ [])
each_snoc P [] x h k = (k, tt)
each_snoc P (y ∷ ys) x h k = (h.0, each_snoc P ys x h.1 k)

-- a function changed at one number
abbrev pub changed : {A : Type 0} → (ℕ → A) → ℕ → A → ℕ → A
changed f k y p = cond (eqb p k) y (f p)

module _ {A : Type 0} (f : ℕ → A) (k : ℕ) (y : A) where
  pub changed_here : changed f k y k ≡ y
  changed_here = ap (λ (b : Bool). cond b y (f k)) (eq-eqb k k refl)

  pub changed_else : (p : ℕ) → p ≢ k → changed f k y p ≡ f p
  changed_else p apart = ap (λ (b : Bool). cond b y (f p)) (ne_eqb p k apart)

  pub changed_cases : (P : ℕ → A → Type 0) → P k y → ((p : ℕ) → p ≢ k → P p (f p)) → (p : ℕ) → P p (changed f k y p)
  changed_cases P here else p = dite (ℕ_discrete p k)
      (λ (e : p ≡ k). subst (λ (q : ℕ). P q (changed f k y q)) (sym e) (subst (P k) (sym changed_here) here))
      (λ (apart : p ≢ k). subst (P p) (sym (changed_else p apart)) (else p apart))

-- lists read by `get_elem?`
module _ {A : Type 0} where
  -- a list stays what is not empty, where an element is set or one more joins
  pub there_set : (l : List A) (i : ℕ) (a : A) → IsThere l → IsThere (set l i a)
  there_set [] i a there = there
  there_set (x ∷ xs) zero a there = tt
  there_set (x ∷ xs) (suc i) a there = tt

  pub there_snoc : (l : List A) (a : A) → IsThere (l ++ a ∷ [])
  there_snoc [] a = tt
  there_snoc (x ∷ xs) a = tt

  -- a longer list begins with the same element
  pub first_of : (l m : List A) (a : A) → IsThere l → get_elem? (l ++ m) 0 ≡ some a → get_elem? l 0 ≡ some a
  first_of [] m a there h = absurd there
  first_of (x ∷ xs) m a there h = h

  pub at_end : (l : List A) (a b : A) (j : ℕ) → get_elem? (l ++ a ∷ []) j ≡ some b → (get_elem? l j ≡ some b) ⊎ ((a ≡ b) × (j ≡ length l))
  at_end [] a b zero e = inr (some-injective a b e, refl)
  at_end [] a b (suc j) e = absurd (some-ne-none b (sym e))
  at_end (x ∷ xs) a b zero e = inl e
  at_end (x ∷ xs) a b (suc j) e = ⊎_elim (λ t. inl t) (λ t. inr (t.0, ap suc t.1)) (at_end xs a b j e)

  pub at_same : (l : List A) (i : ℕ) (a b : A) → get_elem? l i ≡ some a → get_elem? l i ≡ some b → a ≡ b
  at_same l i a b e h = some-injective a b (sym e ∙ h)

  pub at_there : (l : List A) (i : ℕ) (a b : A) → get_elem? l i ≡ some a → get_elem? (set l i b) i ≡ some b
  at_there [] i a b e = absurd (some-ne-none a (sym e))
  at_there (x ∷ xs) zero a b e = refl
  at_there (x ∷ xs) (suc i) a b e = at_there xs i a b e

  pub not_empty : (l : List A) (x : A) (m : List A) → l ++ x ∷ m ≡ [] → ⊥
  not_empty [] x m e = cc
  not_empty (y ∷ ys) x m e = cc
