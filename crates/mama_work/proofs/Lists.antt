-- What a loop over a list has passed, and what it wrote.
use Rattle.std.proofs.Common.{◌≡◌, ℕ, List, [], ◌∷◌, ◌++◌, length, take, drop, map, sym, ap, ◌∙◌, append-nil, append_assoc}
use Rattle.std.proofs.Math.Seq.{take-append_seam}

-- one more was passed
pub whole_more : {A : Type 0} (before : List A) (x : A) (left rest whole : List A) → left ≡ x ∷ rest → before ++ left ≡ whole → (before ++ x ∷ []) ++ rest ≡ whole
whole_more {A} before x left rest whole first all = append_assoc before (x ∷ []) rest ∙ ap (λ (ys : List A). before ++ ys) (sym first) ∙ all

-- all were passed
pub whole_all : {A : Type 0} (before left whole : List A) → left ≡ [] → before ++ left ≡ whole → before ≡ whole
whole_all {A} before left whole none all = sym (append-nil before) ∙ ap (λ (ys : List A). before ++ ys) (sym none) ∙ all

-- a loop that writes in place stopped early: what it left in place is what it wrote
pub left_in_place : {S A : Type 0} (f : S → A) (written old : List S) (n : ℕ) → n ≡ length written → map f written ≡ map f old → map f (take n (written ++ drop (length written) old)) ≡ map f old
left_in_place {S} {A} f written old n count same =
    let rest : List S = drop (length written) old in
    ap (λ (k : ℕ). map f (take k (written ++ rest))) count ∙ (ap (λ (xs : List S). map f xs) (take-append_seam written rest) ∙ same)
