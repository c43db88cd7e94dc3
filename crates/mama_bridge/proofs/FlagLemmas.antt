-- All flags are set exactly where none is left, and with one more exactly where none but that one is left.
use Rattle.std.specs.Prelude.{count_by}
use Rattle.std.proofs.Common.{◌≡◌, ℕ, zero, suc, ◌+◌, ◌<◌, ◌==◌, Bool, true, false, not, ◌&&◌, ◌||◌, cond, List, [], ◌∷◌, length, get_or, set, refl, sym, ◌∙◌, ap, arith, zero-add}
use Rattle.std.proofs.lemmas.List.Sums.{sum_by-cons}
use Rattle.std.proofs.lemmas.Bool.{and_parts}
use Rattle.std.proofs.lemmas.Bool.Decides.{nat_tests}
use Rattle.mama_laws_bridge.specs.Table.{all_set}

abbrev pub unset : List Bool → ℕ
unset flags = count_by (λ (flag : Bool). not flag) flags

pub unset-cons : (x : Bool) (xs : List Bool) → unset (x ∷ xs) ≡ cond (not x) 1 0 + unset xs
unset-cons x xs = sum_by-cons (λ (flag : Bool). cond (not flag) 1 0) x xs

or_none : (a b : Bool) → (a || (b && false)) ≡ a
or_none true b = refl
or_none false true = refl
or_none false false = refl

more_than_none : (u : ℕ) → (1 + u == 0) ≡ false
more_than_none u = grind (arith, nat_tests)

one_is_none : (u : ℕ) → (1 + u == 1) ≡ (u == 0)
one_is_none u = grind (arith, nat_tests)

-- none is left
pub none_unset : (flags : List Bool) → (unset flags == 0) ≡ all_set flags
none_unset [] = refl
none_unset (true ∷ xs) = ap (λ n. n == 0) (unset-cons true xs ∙ zero-add (unset xs)) ∙ none_unset xs
none_unset (false ∷ xs) = ap (λ n. n == 0) (unset-cons false xs) ∙ more_than_none (unset xs)

abbrev left_but : ℕ → Bool → Bool
left_but u flag = (u == 0) || ((u == 1) && not flag)

here : (x : Bool) (xs : List Bool) → left_but (unset (x ∷ xs)) x ≡ all_set xs
here true xs = ap (λ n. left_but n true) (unset-cons true xs ∙ zero-add (unset xs)) ∙ or_none (unset xs == 0) (unset xs == 1) ∙ none_unset xs
here false xs = ap (λ n. left_but n false) (unset-cons false xs) ∙ rw (more_than_none (unset xs), one_is_none (unset xs)) (and_true (unset xs == 0)) ∙ none_unset xs
  where
    and_true : (b : Bool) → (b && true) ≡ b
    and_true true = refl
    and_true false = refl

set_at : (xs : List Bool) (i : ℕ) → i < length xs → all_set xs ≡ true → get_or xs i false ≡ true
set_at [] i lt h = absurd (omega arith)
set_at (x ∷ xs) zero lt h = (and_parts x (all_set xs) h).0
set_at (x ∷ xs) (suc i) lt h = set_at xs i (omega arith) (and_parts x (all_set xs) h).1

not_set : (u : Bool) (flag : Bool) → (u ≡ true → flag ≡ true) → (u && not flag) ≡ false
not_set true flag h = rw (h refl) refl
not_set false flag h = refl

-- none is left with one more
pub one_unset : (flags : List Bool) (i : ℕ) → i < length flags → ((unset flags == 0) || ((unset flags == 1) && not (get_or flags i false))) ≡ all_set (set flags i true)
one_unset [] i lt = absurd (omega arith)
one_unset (x ∷ xs) zero lt = here x xs
one_unset (true ∷ xs) (suc i) lt = ap (λ n. left_but n (get_or xs i false)) (unset-cons true xs ∙ zero-add (unset xs)) ∙ one_unset xs i (omega arith)
one_unset (false ∷ xs) (suc i) lt =
    ap (λ n. left_but n (get_or xs i false)) (unset-cons false xs)
    ∙ rw (more_than_none (unset xs), one_is_none (unset xs)) (not_set (unset xs == 0) (get_or xs i false) (λ h. set_at xs i (omega arith) (sym (none_unset xs) ∙ h)))

any_default : (xs : List Bool) (i : ℕ) (d e : Bool) → i < length xs → get_or xs i d ≡ get_or xs i e
any_default [] i d e lt = absurd (omega arith)
any_default (x ∷ xs) zero d e lt = refl
any_default (x ∷ xs) (suc i) d e lt = any_default xs i d e (omega arith)

pub one_unset_read : (flags : List Bool) (i : ℕ) (left : ℕ) (flag : Bool) → i < length flags → left ≡ unset flags → flag ≡ get_or flags i flag → ((left == 0) || ((left == 1) && not flag)) ≡ all_set (set flags i true)
one_unset_read flags i left flag lt count read = ap (λ n. left_but n flag) count ∙ ap (λ b. left_but (unset flags) b) (read ∙ any_default flags i flag false lt) ∙ one_unset flags i lt
