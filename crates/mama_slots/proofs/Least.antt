-- The least number that is not among those in use.
use Rattle.std.specs.List.{list_any}
use Rattle.std.proofs.Common.{◌≡◌, ℕ, zero, suc, ◌+◌, ◌≤◌, ◌<◌, ◌==◌, eqb, Bool, true, false, ◌||◌, cond, List, [], ◌∷◌, length, refl, ◌∙◌, ap, arith, ⊎_elim}
use Rattle.std.proofs.lemmas.Bool.{both_ways, false_from_ne_true, cases_eq}
use Rattle.std.proofs.lemmas.Bool.Decides.{nat_tests}
use Rattle.std.proofs.lemmas.Map.Steps.{le-length_from_below}
use Rattle.mama_journal.specs.Journal.{least_from, least_free}

agree : {X : Type 0} (p q : X → Bool) (xs : List X) → ((x : X) → p x ≡ q x) → list_any p xs ≡ list_any q xs
agree p q [] h = refl
agree p q (x ∷ xs) h = ap (λ b. b || list_any p xs) (h x) ∙ ap (λ b. q x || b) (agree p q xs h)

in_both : (n k : ℕ) → (n == k) ≡ (k == n)
in_both n k = grind (arith, nat_tests)

sought : (used : List ℕ) (n fuel k : ℕ) → k ≤ n → n ≤ k + fuel → list_any (λ m. m == n) used ≡ false → ((j : ℕ) → j < n → list_any (λ m. m == j) used ≡ true) → least_from k fuel used ≡ n
sought used n zero k low high free below = omega (arith, low, high)
sought used n (suc fuel) k low high free below = ⊎_elim
    (λ (e : k ≡ n). rw (ap (λ (j : ℕ). list_any (λ m. m == j) used) e ∙ free) e)
    (λ (ne : k ≡ n → ⊥). let less : k < n = omega (arith, low, ne) in rw (below k less) (sought used n fuel (suc k) (omega (arith, less)) (omega (arith, high)) free below))
    (cases_eq k n)

-- the least free number is free, and all below it are not
pub least_free-is : (used : List ℕ) (n : ℕ) → list_any (λ m. m == n) used ≡ false → ((j : ℕ) → j < n → list_any (λ m. m == j) used ≡ true) → least_free used ≡ n
least_free-is used n free below =
    let few : n ≤ length used = le-length_from_below used n (λ j less. agree (λ m. eqb j m) (λ m. m == j) used (λ m. in_both j m) ∙ below j less) in
    sought used n (length used) 0 (omega arith) (omega (arith, few)) free below

sought_free : (used : List ℕ) (fuel k : ℕ) → ((j : ℕ) → j < k → list_any (λ m. m == j) used ≡ true) → list_any (λ m. m == least_from k fuel used) used ≡ true
    → (least_from k fuel used ≡ k + fuel) × ((j : ℕ) → j < k + fuel → list_any (λ m. m == j) used ≡ true)
sought_free used zero k below h = (omega arith, λ j less. below j (omega (arith, less)))
sought_free used (suc fuel) k below h = by_case (sought_free used fuel (suc k)) (list_any (λ m. m == k) used) refl h
  where
    more : list_any (λ m. m == k) used ≡ true → (j : ℕ) → j < suc k → list_any (λ m. m == j) used ≡ true
    more e j less = ⊎_elim (λ (s : j ≡ k). ap (λ (i : ℕ). list_any (λ m. m == i) used) s ∙ e) (λ (ne : j ≡ k → ⊥). below j (omega (arith, less, ne))) (cases_eq j k)

    by_case : (((j : ℕ) → j < suc k → list_any (λ m. m == j) used ≡ true) → list_any (λ m. m == least_from (suc k) fuel used) used ≡ true
        → (least_from (suc k) fuel used ≡ suc k + fuel) × ((j : ℕ) → j < suc k + fuel → list_any (λ m. m == j) used ≡ true))
        → (b : Bool) → list_any (λ m. m == k) used ≡ b → list_any (λ m. m == cond b (least_from (suc k) fuel used) k) used ≡ true
        → (cond b (least_from (suc k) fuel used) k ≡ k + suc fuel) × ((j : ℕ) → j < k + suc fuel → list_any (λ m. m == j) used ≡ true)
    by_case next true e h = let rest = next (more e) h in (rest.0 ∙ omega arith, λ j less. rest.1 j (omega (arith, less)))
    by_case next false e h = absurd (both_ways (list_any (λ m. m == k) used) e h)

-- the least free number is not in use
pub least_free-free : (used : List ℕ) → list_any (λ m. m == least_free used) used ≡ false
least_free-free used = false_from_ne_true (list_any (λ m. m == least_free used) used) (λ h.
    let found = sought_free used (length used) 0 (λ j less. absurd (omega (arith, less))) h in
    let full : (j : ℕ) → j < suc (length used) → list_any (λ m. m == j) used ≡ true = λ j less. ⊎_elim
    (λ (s : j ≡ least_free used). ap (λ (i : ℕ). list_any (λ m. m == i) used) s ∙ h)
    (λ (ne : j ≡ least_free used → ⊥). found.1 j (omega (arith, less, ne, found.0)))
    (cases_eq j (least_free used)) in
    let many : suc (length used) ≤ length used = le-length_from_below used (suc (length used)) (λ j less. agree (λ m. eqb j m) (λ m. m == j) used (λ m. in_both j m) ∙ full j less) in
    omega (arith, many))
