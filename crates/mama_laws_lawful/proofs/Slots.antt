-- The numbers below the least free one are in use.
use Rattle.std.specs.List.{list_any}
use Rattle.std.proofs.Common.{◌≡◌, ℕ, zero, suc, ◌≤◌, ◌<◌, ◌==◌, Bool, true, false, cond, List, length, refl, sym, ◌∙◌, ap, arith, ⊎_elim}
use Rattle.std.proofs.lemmas.Bool.{both_ways, cases_eq, cases_lt}
use Rattle.mama_journal.specs.Journal.{least_from, least_free}
use Rattle.mama_slots.proofs.Least.{least_free-free}

-- the numbers below it are in use
least_from-below : (used : List ℕ) (fuel k : ℕ) → ((j : ℕ) → j < k → list_any (λ m. m == j) used ≡ true) → (j : ℕ) → j < least_from k fuel used → list_any (λ m. m == j) used ≡ true
least_from-below used zero k below = below
least_from-below used (suc fuel) k below = by_case (least_from-below used fuel (suc k)) (list_any (λ m. m == k) used) refl
  where
    more : list_any (λ m. m == k) used ≡ true → (j : ℕ) → j < suc k → list_any (λ m. m == j) used ≡ true
    more e j less = ⊎_elim (λ (s : j ≡ k). ap (λ (i : ℕ). list_any (λ m. m == i) used) s ∙ e) (λ (ne : j ≡ k → ⊥). below j (omega (arith, less, ne))) (cases_eq j k)

    by_case : (((j : ℕ) → j < suc k → list_any (λ m. m == j) used ≡ true) → (j : ℕ) → j < least_from (suc k) fuel used → list_any (λ m. m == j) used ≡ true)
        → (b : Bool) → list_any (λ m. m == k) used ≡ b → (j : ℕ) → j < cond b (least_from (suc k) fuel used) k → list_any (λ m. m == j) used ≡ true
    by_case next true e j less = next (more e) j less
    by_case next false e j less = below j less

pub least_free-below : (used : List ℕ) (j : ℕ) → j < least_free used → list_any (λ m. m == j) used ≡ true
least_free-below used = least_from-below used (length used) 0 (λ j less. absurd (omega (arith, less)))

-- so it is one for lists of the same numbers
pub least_free-same : (us vs : List ℕ) → ((p : ℕ → Bool) → list_any p us ≡ list_any p vs) → least_free us ≡ least_free vs
least_free-same us vs same =
    let below_us = least_from-below us (length us) 0 (λ j less. absurd (omega (arith, less))) in
    let below_vs = least_from-below vs (length vs) 0 (λ j less. absurd (omega (arith, less))) in
    ⊎_elim (λ (is : least_free us ≡ least_free vs). is)
    (λ (apart : least_free us ≡ least_free vs → ⊥). ⊎_elim
    (λ (less : least_free us < least_free vs). absurd (both_ways (list_any (λ m. m == least_free us) us) (least_free-free us) (same (λ m. m == least_free us) ∙ below_vs (least_free us) less)))
    (λ (more : least_free vs ≤ least_free us).
    let less : least_free vs < least_free us = omega (arith, more, apart) in
    absurd (both_ways (list_any (λ m. m == least_free vs) vs) (least_free-free vs) (sym (same (λ m. m == least_free vs)) ∙ below_us (least_free vs) less)))
    (cases_lt (least_free us) (least_free vs)))
    (cases_eq (least_free us) (least_free vs))
