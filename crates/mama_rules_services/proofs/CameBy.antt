-- By which port came what passes a test by its meaning.
use Rattle.std.specs.List.{list_any}
use Rattle.std.proofs.Common.{◌≡◌, ℕ, ◌==◌, Bool, true, false, cond, List, [], ◌∷◌, map, refl, ◌∙◌, ap, ⊎_elim}
use Rattle.std.proofs.lemmas.Bool.{both_ways, or_cases, or_left, or_right, eq-eqb}
use Rattle.mama_journal.specs.Lane.{by_port}

-- it came by the port that alone can put it
pub came_by : {N E : Type 0} (say : ℕ → N → E) (k : ℕ) (n : N → Bool) (test : E → Bool) → ((port : ℕ) (note : N) → test (say port note) ≡ true → (port ≡ k) × (n note ≡ true))
    → (journal : List (ℕ × N)) → list_any test (map (λ e. say e.0 e.1) journal) ≡ true → list_any n (by_port k journal) ≡ true
came_by say k n test means [] h = absurd (both_ways false refl h)
came_by say k n test means (e ∷ es) h = ⊎_elim
    (λ here. let parts = means e.0 e.1 here in
    ap (λ (b : Bool). list_any n (cond b (e.1 ∷ by_port k es) (by_port k es))) (eq-eqb e.0 k parts.0) ∙ or_left (n e.1) (list_any n (by_port k es)) parts.1)
    (λ later. either (e.0 == k) (came_by say k n test means es later))
    (or_cases (test (say e.0 e.1)) (list_any test (map (λ e. say e.0 e.1) es)) h)
  where
    either : (b : Bool) → list_any n (by_port k es) ≡ true → list_any n (cond b (e.1 ∷ by_port k es) (by_port k es)) ≡ true
    either true h = or_right (n e.1) (list_any n (by_port k es)) h
    either false h = h

-- a test that neither of two passes
pub cond_off : {X : Type 0} (test : X → Bool) (b : Bool) (x y : X) → test x ≡ false → test y ≡ false → test (cond b x y) ≡ false
cond_off test true x y h g = h
cond_off test false x y h g = g
