-- The numbers under which a journal puts are below its length, and more entries leave what was put before as it was.
use Rattle.std.specs.Prelude.{slice_get, Some, ⊤}
use Rattle.std.proofs.Common.{◌≡◌, ℕ, zero, suc, ◌+◌, ◌<◌, List, [], ◌∷◌, ◌++◌, length, sym, ◌∙◌, ap, subst, arith}
use Rattle.mama_check_order.specs.Numbered.{from_entry, numbered_after, numbered, parted, steps_numbered_from, steps_numbered}
use Rattle.mama_check_order.proofs.Numbered.{numbered_append, parted_append}

-- ---- beginnings

-- a list is the first part of another
abbrev pub Begins : {X : Type 0} → List X → List X → Type 0
Begins {X} xs ys = (rest : List X) × (xs ++ rest ≡ ys)

-- what a journal puts begins what the journal puts with more entries
pub numbered_begins : {E P : Type 0} (at : List E → E → List P) (before whole : List E) → Begins before whole → Begins (numbered at before) (numbered at whole)
numbered_begins at before whole begins =
    (numbered_after at (length before) before begins.0, sym (numbered_append at before begins.0) ∙ ap (numbered at) begins.1)

pub parted_begins : {P V : Type 0} (part : P → List V) (xs ys : List (ℕ × P)) → Begins xs ys → Begins (parted part xs) (parted part ys)
parted_begins part xs ys begins = (parted part begins.0, sym (parted_append part xs begins.0) ∙ ap (parted part) begins.1)

-- what stands in the first part stands there in the whole
pub in_first : {X : Type 0} (xs rest : List X) (n : ℕ) (x : X) → n < length xs → slice_get (xs ++ rest) n ≡ Some x → slice_get xs n ≡ Some x
in_first [] rest n x inside is = absurd (omega arith)
in_first (y ∷ ys) rest zero x inside is = is
in_first (y ∷ ys) rest (suc n) x inside is = in_first ys rest n x (omega arith) is

-- ---- numbers

-- all numbers are below this
abbrev pub AreBelow : {V : Type 0} → ℕ → List (ℕ × V) → Type 0
AreBelow n [] = ⊤
AreBelow n (x ∷ xs) = (x.0 < n) × AreBelow n xs

below_append : {V : Type 0} (n : ℕ) (xs ys : List (ℕ × V)) → AreBelow n xs → AreBelow n ys → AreBelow n (xs ++ ys)
below_append n [] ys first later = later
below_append n (x ∷ xs) ys first later = (first.0, below_append n xs ys first.1 later)

below_entry : {P : Type 0} (n k : ℕ) (ps : List P) → k < n → AreBelow n (from_entry k ps)
below_entry n k [] low = tt
below_entry n k (p ∷ ps) low = (low, below_entry n k ps low)

below_numbered_after : {E P : Type 0} (at : List E → E → List P) (k : ℕ) (before es : List E) → AreBelow (k + length es) (numbered_after at k before es)
below_numbered_after at k before [] = tt
below_numbered_after at k before (e ∷ es) =
    let place : suc k + length es ≡ k + suc (length es) = omega arith in
    below_append (k + suc (length es)) (from_entry k (at before e)) (numbered_after at (suc k) (before ++ e ∷ []) es)
    (below_entry (k + suc (length es)) k (at before e) (omega arith))
    (subst (λ (n : ℕ). AreBelow n (numbered_after at (suc k) (before ++ e ∷ []) es)) place (below_numbered_after at (suc k) (before ++ e ∷ []) es))

-- those of what a journal puts are below its length
pub below_numbered : {E P : Type 0} (at : List E → E → List P) (journal : List E) → AreBelow (length journal) (numbered at journal)
below_numbered at journal =
    let same : 0 + length journal ≡ length journal = omega arith in
    subst (λ (n : ℕ). AreBelow n (numbered at journal)) same (below_numbered_after at 0 [] journal)

below_steps_from : {P : Type 0} (k : ℕ) (steps : List (List P)) → AreBelow (k + length steps) (steps_numbered_from k steps)
below_steps_from k [] = tt
below_steps_from k (step ∷ steps) =
    let place : suc k + length steps ≡ k + suc (length steps) = omega arith in
    below_append (k + suc (length steps)) (from_entry k step) (steps_numbered_from (suc k) steps)
    (below_entry (k + suc (length steps)) k step (omega arith))
    (subst (λ (n : ℕ). AreBelow n (steps_numbered_from (suc k) steps)) place (below_steps_from (suc k) steps))

-- and of what steps put, below how many there are
pub below_steps : {P : Type 0} (steps : List (List P)) → AreBelow (length steps) (steps_numbered steps)
below_steps steps =
    let same : 0 + length steps ≡ length steps = omega arith in
    subst (λ (n : ℕ). AreBelow n (steps_numbered steps)) same (below_steps_from 0 steps)

pub below_parted : {P V : Type 0} (part : P → List V) (n : ℕ) (xs : List (ℕ × P)) → AreBelow n xs → AreBelow n (parted part xs)
below_parted part n [] below = tt
below_parted part n (x ∷ xs) below = below_append n (from_entry x.0 (part x.1)) (parted part xs) (below_entry n x.0 (part x.1) below.0) (below_parted part n xs below.1)

pub below_at : {V : Type 0} (n : ℕ) (xs : List (ℕ × V)) (k : ℕ) (x : ℕ × V) → AreBelow n xs → slice_get xs k ≡ Some x → x.0 < n
below_at n [] zero x below is = cc
below_at n [] (suc k) x below is = cc
below_at {V} n (y ∷ ys) zero x below is =
    let same : y ≡ x = cc in
    subst (λ (z : ℕ × V). z.0 < n) same below.0
below_at n (y ∷ ys) (suc k) x below is = below_at n ys k x below.1 is
