-- A roll is full where none is left.
use Rattle.std.proofs.Common.{◌≡◌, ℕ, ◌+◌, ◌<◌, Bool, true, false, not, cond, ◌&&◌, ◌||◌, ◌==◌, List, [], ◌∷◌, length, get_or, set, refl, sym, ◌∙◌, arith}
use Rattle.std.specs.List.{list_all, count_by}
use Rattle.std.proofs.lemmas.List.Folds.{sum_by-zero}
use Rattle.std.proofs.lemmas.List.Sums.{sum_by-set}
use Rattle.std.proofs.lemmas.Bool.Decides.{nat_tests}

all_none : (xs : List Bool) → list_all (λ (x : Bool). (cond (not x) 1 0) == 0) xs ≡ list_all (λ (x : Bool). x) xs
all_none [] = refl
all_none (true ∷ xs) = all_none xs
all_none (false ∷ xs) = refl

pub full_where_none_left : (xs : List Bool) → list_all (λ (x : Bool). x) xs ≡ (count_by not xs == 0)
full_where_none_left xs = sym (sum_by-zero (λ (x : Bool). cond (not x) 1 0) xs ∙ all_none xs)

-- marking one leaves one less, where it was left
pub left_with : (xs : List Bool) (one : ℕ) → one < length xs →
    count_by not (set xs one true) + cond (not (get_or xs one false)) 1 0 ≡ count_by not xs
left_with xs one within = sum_by-set (λ (x : Bool). cond (not x) 1 0) xs one true false within ∙ omega arith

pub full_with : (xs : List Bool) (one left : ℕ) → one < length xs → left ≡ count_by not xs →
    list_all (λ (x : Bool). x) (set xs one true) ≡ (left == 0 || (left == 1 && not (get_or xs one false)))
full_with xs one left within counted =
    full_where_none_left (set xs one true) ∙ by_case (get_or xs one false) (left_with xs one within)
  where
    by_case : (b : Bool) → count_by not (set xs one true) + cond (not b) 1 0 ≡ count_by not xs →
        (count_by not (set xs one true) == 0) ≡ (left == 0 || (left == 1 && not b))
    by_case true h = grind (arith, nat_tests)
    by_case false h = grind (arith, nat_tests)
