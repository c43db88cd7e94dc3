-- Laws of numbered puts: without the numbers they are the puts, and an entry more puts its events under its own number.
use Rattle.std.specs.List.{flat_map}
use Rattle.std.proofs.Common.{◌≡◌, ℕ, suc, ◌+◌, List, [], ◌∷◌, ◌++◌, length, map, refl, sym, ◌∙◌, ap, arith, append-nil, append_assoc}
use Rattle.std.proofs.lemmas.Grind.{flat_map-append}
use Rattle.mama_journal.specs.Journal.{puts_after, puts}
use Rattle.mama_check_order.specs.Numbered.{from_entry, second, numbered_after, numbered, parted_one, parted, steps_numbered_from, steps_numbered}

-- ---- without the numbers

pub from_entry_puts : {P : Type 0} (n : ℕ) (ps : List P) → map second (from_entry n ps) ≡ ps
from_entry_puts n [] = refl
from_entry_puts n (p ∷ ps) = ap (λ (qs : List _). p ∷ qs) (from_entry_puts n ps)

-- what one entry put, and then what came after
entry_first : {P : Type 0} (n : ℕ) (ps : List P) (more : List (ℕ × P)) (rest : List P) → map second more ≡ rest → map second (from_entry n ps ++ more) ≡ ps ++ rest
entry_first n [] more rest h = h
entry_first n (p ∷ ps) more rest h = ap (λ (qs : List _). p ∷ qs) (entry_first n ps more rest h)

numbered_after_puts : {E P : Type 0} (at : List E → E → List P) (n : ℕ) (before es : List E) → map second (numbered_after at n before es) ≡ puts_after at before es
numbered_after_puts at n before [] = refl
numbered_after_puts at n before (e ∷ es) =
    let later = before ++ e ∷ [] in
    entry_first n (at before e) (numbered_after at (suc n) later es) (puts_after at later es) (numbered_after_puts at (suc n) later es)

-- what a journal puts
pub numbered_puts : {E P : Type 0} (at : List E → E → List P) (journal : List E) → map second (numbered at journal) ≡ puts at journal
numbered_puts at journal = numbered_after_puts at 0 [] journal

steps_from_puts : {P : Type 0} (n : ℕ) (steps : List (List P)) → map second (steps_numbered_from n steps) ≡ flat_map (λ step. step) steps
steps_from_puts n [] = refl
steps_from_puts n (step ∷ steps) = entry_first n step (steps_numbered_from (suc n) steps) (flat_map (λ s. s) steps) (steps_from_puts (suc n) steps)

-- what an actor's steps put
pub steps_puts : {P : Type 0} (steps : List (List P)) → map second (steps_numbered steps) ≡ flat_map (λ step. step) steps
steps_puts steps = steps_from_puts 0 steps

-- the part that goes one way
pub parted_puts : {P V : Type 0} (part : P → List V) (xs : List (ℕ × P)) → map second (parted part xs) ≡ flat_map part (map second xs)
parted_puts part [] = refl
parted_puts part (x ∷ xs) = entry_first x.0 (part x.1) (parted part xs) (flat_map part (map second xs)) (parted_puts part xs)

-- ---- an entry more

numbered_after_append : {E P : Type 0} (at : List E → E → List P) (n : ℕ) (before es fs : List E)
    → numbered_after at n before (es ++ fs) ≡ numbered_after at n before es ++ numbered_after at (n + length es) (before ++ es) fs
numbered_after_append at n before [] fs =
    let same : n + 0 ≡ n = omega arith in
    rw (append-nil before) (ap (λ (m : ℕ). numbered_after at m before fs) (sym same))
numbered_after_append at n before (e ∷ es) fs =
    let later = before ++ e ∷ [] in
    let here = from_entry n (at before e) in
    let place : suc n + length es ≡ n + suc (length es) = omega arith in
    ap (λ (xs : List _). here ++ xs) (numbered_after_append at (suc n) later es fs)
    ∙ ap (λ (ys : List _). here ++ (numbered_after at (suc n) later es ++ numbered_after at (suc n + length es) ys fs)) (append_assoc before (e ∷ []) es)
    ∙ ap (λ (m : ℕ). here ++ (numbered_after at (suc n) later es ++ numbered_after at m (before ++ (e ∷ es)) fs)) place
    ∙ sym (append_assoc here (numbered_after at (suc n) later es) (numbered_after at (n + suc (length es)) (before ++ (e ∷ es)) fs))

-- what a journal puts, and then what more entries put
pub numbered_append : {E P : Type 0} (at : List E → E → List P) (es fs : List E) → numbered at (es ++ fs) ≡ numbered at es ++ numbered_after at (length es) es fs
numbered_append at es fs =
    let same : 0 + length es ≡ length es = omega arith in
    numbered_after_append at 0 [] es fs ∙ ap (λ (m : ℕ). numbered at es ++ numbered_after at m es fs) same

pub numbered_push : {E P : Type 0} (at : List E → E → List P) (es : List E) (e : E) → numbered at (es ++ e ∷ []) ≡ numbered at es ++ from_entry (length es) (at es e)
numbered_push at es e = numbered_append at es (e ∷ []) ∙ ap (λ (xs : List _). numbered at es ++ xs) (append-nil (from_entry (length es) (at es e)))

steps_from_append : {P : Type 0} (n : ℕ) (steps more : List (List P)) → steps_numbered_from n (steps ++ more) ≡ steps_numbered_from n steps ++ steps_numbered_from (n + length steps) more
steps_from_append n [] more = let same : n + 0 ≡ n = omega arith in ap (λ (m : ℕ). steps_numbered_from m more) (sym same)
steps_from_append n (step ∷ steps) more =
    let place : suc n + length steps ≡ n + suc (length steps) = omega arith in
    ap (λ (xs : List _). from_entry n step ++ xs) (steps_from_append (suc n) steps more)
    ∙ ap (λ (m : ℕ). from_entry n step ++ (steps_numbered_from (suc n) steps ++ steps_numbered_from m more)) place
    ∙ sym (append_assoc (from_entry n step) (steps_numbered_from (suc n) steps) (steps_numbered_from (n + suc (length steps)) more))

pub steps_push : {P : Type 0} (steps : List (List P)) (step : List P) → steps_numbered (steps ++ step ∷ []) ≡ steps_numbered steps ++ from_entry (length steps) step
steps_push steps step =
    let same : 0 + length steps ≡ length steps = omega arith in
    steps_from_append 0 steps (step ∷ [])
    ∙ ap (λ (m : ℕ). steps_numbered steps ++ (from_entry m step ++ [])) same
    ∙ ap (λ (xs : List _). steps_numbered steps ++ xs) (append-nil (from_entry (length steps) step))

-- ---- parts

pub parted_append : {P V : Type 0} (part : P → List V) (xs ys : List (ℕ × P)) → parted part (xs ++ ys) ≡ parted part xs ++ parted part ys
parted_append part xs ys = flat_map-append (parted_one part) xs ys

entry_append : {P : Type 0} (n : ℕ) (ps qs : List P) → from_entry n (ps ++ qs) ≡ from_entry n ps ++ from_entry n qs
entry_append n [] qs = refl
entry_append n (p ∷ ps) qs = ap (λ (xs : List _). (n, p) ∷ xs) (entry_append n ps qs)

-- the part of what one entry put is put by that entry
pub parted_entry : {P V : Type 0} (part : P → List V) (n : ℕ) (ps : List P) → parted part (from_entry n ps) ≡ from_entry n (flat_map part ps)
parted_entry part n [] = refl
parted_entry part n (p ∷ ps) = ap (λ (xs : List _). from_entry n (part p) ++ xs) (parted_entry part n ps) ∙ sym (entry_append n (part p) (flat_map part ps))

-- the part of what a journal puts, with an entry more
pub parted_push : {E P V : Type 0} (part : P → List V) (at : List E → E → List P) (es : List E) (e : E)
    → parted part (numbered at (es ++ e ∷ [])) ≡ parted part (numbered at es) ++ from_entry (length es) (flat_map part (at es e))
parted_push part at es e =
    ap (λ (xs : List _). parted part xs) (numbered_push at es e)
    ∙ parted_append part (numbered at es) (from_entry (length es) (at es e))
    ∙ ap (λ (xs : List _). parted part (numbered at es) ++ xs) (parted_entry part (length es) (at es e))
