-- Letters, as a loop finds them.
use Rattle.std.proofs.Common.{◌≡◌, ℕ, zero, suc, ◌-◌, ◌<◌, ◌≤◌, Bool, true, false, List, [], ◌∷◌, ◌++◌, length, get_or, take, drop, Result, Ok, Err, refl, sym, ap, ◌∙◌, arith}
use Rattle.std.specs.List.{list_all}
use Rattle.std.proofs.lemmas.List.{take-append-drop, length-take-le}
use Rattle.mama_payload.specs.declared.fault.Fault.{Fault}
use Rattle.mama_payload.specs.declared.fault.Rule.TheVariants as rules
use Rattle.mama_payload.specs.Reading.{letters_at}
use Rattle.mama_payload.proofs.Steps.{truncated}
use Rattle.mama_payload.proofs.Parts.{and_parts, letters_again}

-- a bad letter with so many bytes left
abbrev pub bad_letter : ℕ → Fault
bad_letter left = record { rule = rules.BadText; left = left }

abbrev pub failed : Fault → Result (List ℕ × List ℕ) Fault
failed fault = Err fault

-- the first letter that does not pass is the fault
pub letters_bad : (test : ℕ → Bool) (n i : ℕ) (bytes : List ℕ) → i < n → i < length bytes → list_all test (take i bytes) ≡ true → test (get_or bytes i 0) ≡ false → letters_at test n bytes ≡ Err (bad_letter (length bytes - i))
unfolding letters_at
letters_bad test zero i bytes count within passed fails = absurd (omega arith)
letters_bad test (suc n) i [] count within passed fails = absurd (omega arith)
letters_bad test (suc n) zero (b ∷ bytes) count within passed fails =
    let left : suc (length bytes) ≡ suc (length bytes) - 0 = omega arith in
    rw fails (ap (λ (k : ℕ). failed (bad_letter k)) left)
letters_bad test (suc n) (suc i) (b ∷ bytes) count within passed fails =
    let both = and_parts (test b) (list_all test (take i bytes)) passed in
    let left : length bytes - i ≡ suc (length bytes) - suc i = omega arith in
    rw (both.0, letters_bad test n i bytes (omega arith) (omega arith) both.1 fails) (ap (λ (k : ℕ). failed (bad_letter k)) left)

-- letters that all pass and are too few are truncated
pub letters_short : (test : ℕ → Bool) (n : ℕ) (bytes : List ℕ) → length bytes < n → list_all test bytes ≡ true → letters_at test n bytes ≡ Err truncated
unfolding letters_at
letters_short test zero bytes short passed = absurd (omega arith)
letters_short test (suc n) [] short passed = refl
letters_short test (suc n) (b ∷ bytes) short passed =
    let both = and_parts (test b) (list_all test bytes) passed in
    rw (both.0, letters_short test n bytes (omega arith) both.1) refl

-- letters that all pass are read
pub letters_fine : (test : ℕ → Bool) (n : ℕ) (bytes : List ℕ) → n ≤ length bytes → list_all test (take n bytes) ≡ true → letters_at test n bytes ≡ Ok (take n bytes, drop n bytes)
letters_fine test n bytes long passed =
    let parts : take n bytes ++ drop n bytes ≡ bytes = take-append-drop n bytes in
    let count : length (take n bytes) ≡ n = length-take-le n bytes long in
    ap (letters_at test n) (sym parts) ∙ ap (λ (k : ℕ). letters_at test k (take n bytes ++ drop n bytes)) (sym count) ∙ letters_again test (take n bytes) (drop n bytes) passed
