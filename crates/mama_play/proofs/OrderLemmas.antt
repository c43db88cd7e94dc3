-- Seats in the order of their actors.
use Rattle.std.specs.List.{IsSplitAt}
use Rattle.std.proofs.Common.{◌≡◌, ℕ, zero, suc, ◌+◌, ◌<◌, List, [], ◌∷◌, ◌++◌, length, map, take, get_or, refl, sym, ap, ◌∙◌, arith}
use Rattle.std.proofs.lemmas.List.{map-append, take_more, take_all, take-append-drop}
use Rattle.mama_journal.specs.Journal.{numbers_below}

-- one number more
pub numbers_more : {B : Type 0} (f : ℕ → B) (n : ℕ) → map f (numbers_below (n + 1)) ≡ map f (numbers_below n) ++ f n ∷ []
numbers_more f n = let one : n + 1 ≡ suc n = omega arith in ap (λ k. map f (numbers_below k)) one ∙ map-append f (numbers_below n) (n ∷ [])

module _ {S B : Type 0} (who : S → B) (f : ℕ → B) where
  -- one seat more, which is that of the next number
  pub row_more : (xs : List S) (i : ℕ) (x : S) → i < length xs → x ≡ get_or xs i x → map who (take i xs) ≡ map f (numbers_below i) → who x ≡ f i
      → map who (take (i + 1) xs) ≡ map f (numbers_below (i + 1))
  row_more xs i x within is before at =
      let next : take (i + 1) xs ≡ take i xs ++ x ∷ [] = take_more xs i x within ∙ ap (λ (y : S). take i xs ++ y ∷ []) (sym is) in
      ap (map who) next ∙ map-append who (take i xs) (x ∷ []) ∙ ap (λ (ys : List B). ys ++ who x ∷ []) before
      ∙ ap (λ (b : B). map f (numbers_below i) ++ b ∷ []) at ∙ sym (numbers_more f i)

  -- all seats
  pub whole_row : (xs : List S) (i : ℕ) → i ≡ length xs → map who (take i xs) ≡ map f (numbers_below i) → map who xs ≡ map f (numbers_below (length xs))
  whole_row xs i end before =
      ap (map who) (sym (take_all i xs (omega arith))) ∙ before ∙ ap (λ (n : ℕ). map f (numbers_below n)) end

module _ {S B : Type 0} (who : S → B) where
  -- the actors of two parts of a row
  pub parted : (xs front back : List S) (mid : ℕ) (us vs : List B) → IsSplitAt xs mid front back → map who front ≡ us → map who back ≡ vs → map who xs ≡ us ++ vs
  parted xs front back mid us vs cut fronts backs =
      let joined : front ++ back ≡ xs = ap (λ (ys : List S). ys ++ back) cut.1 ∙ ap (λ (ys : List S). take mid xs ++ ys) cut.2 ∙ take-append-drop mid xs in
      ap (map who) (sym joined) ∙ map-append who front back ∙ ap (λ (ys : List B). ys ++ map who back) fronts ∙ ap (λ (ys : List B). us ++ ys) backs

-- the first of two, and the other
abbrev row : {B : Type 0} → B → B → ℕ → B
row u v zero = u
row u v (suc n) = v

-- the actors of two seats
pub two_are : {S B : Type 0} (who : S → B) (xs : List S) (a b : S) (u v : B) → length xs ≡ 2 → a ≡ get_or xs 0 a → b ≡ get_or xs 1 b → who a ≡ u → who b ≡ v → map who xs ≡ u ∷ v ∷ []
two_are who xs a b u v len first second one two =
    whole_row who (row u v) xs 2 (sym len) (row_more who (row u v) xs 1 b (omega (arith, len)) second (row_more who (row u v) xs 0 a (omega (arith, len)) first refl one) two)
    ∙ ap (λ (n : ℕ). map (row u v) (numbers_below n)) len
