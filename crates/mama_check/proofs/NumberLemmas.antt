-- What stands at a number among the numbers below another.
use Rattle.std.specs.Prelude.{slice_index_or}
use Rattle.std.proofs.Common.{◌≡◌, ◌⊎◌, ℕ, zero, suc, ◌<◌, ◌≤◌, List, [], ◌∷◌, ◌++◌, length, map, get_or, refl, ap, sym, ◌∙◌, arith, ⊎_elim, eq-or-lt_of_le}
use Rattle.std.proofs.lemmas.List.{length-map, length_push, get_or-map, get_or_past, get_or_append_left, get_or_at}
use Rattle.mama_journal.specs.Journal.{numbers_below}

pub numbers_len : (n : ℕ) → length (numbers_below n) ≡ n
numbers_len zero = refl
numbers_len (suc n) = length_push (numbers_below n) n ∙ omega (arith, numbers_len n)

last_or_below : (q n : ℕ) → q < suc n → (q ≡ n) ⊎ (q < n)
last_or_below q n within = eq-or-lt_of_le (omega (arith, within))

pub number_at : (n q d : ℕ) → q < n → get_or (numbers_below n) q d ≡ q
number_at zero q d within = absurd (omega (arith, within))
number_at (suc n) q d within =
    ⊎_elim
    (λ (same : q ≡ n). ap (λ (k : ℕ). get_or (numbers_below n ++ n ∷ []) k d) same ∙ get_or_at (numbers_below n) n [] d n (numbers_len n) ∙ sym same)
    (λ (below : q < n). get_or_append_left (numbers_below n) (n ∷ []) d q (omega (arith, below, numbers_len n)) ∙ number_at n q d below)
    (last_or_below q n within)

-- the list of a number below the count, and none past it
pub on_at : {X : Type 0} (f : ℕ → List X) (n q : ℕ) → q < n → slice_index_or (map f (numbers_below n)) q [] ≡ f q
on_at f n q inside = get_or-map f (numbers_below n) q q [] (omega (arith, inside, numbers_len n)) ∙ ap f (number_at n q q inside)

pub on_past : {X : Type 0} (f : ℕ → List X) (n q : ℕ) → n ≤ q → slice_index_or (map f (numbers_below n)) q [] ≡ []
on_past f n q past = get_or_past (map f (numbers_below n)) q [] (omega (arith, past, numbers_len n, length-map (numbers_below n) f))
