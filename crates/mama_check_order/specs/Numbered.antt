-- believed: What a journal puts, each event with the number of the entry that put it.
use Rattle.std.specs.Prelude.{ℕ, suc, List, [], ◌∷◌, ◌++◌, map}
use Rattle.std.specs.List.{flat_map}

-- events that one entry put
abbrev pub from_entry : {P : Type 0} → ℕ → List P → List (ℕ × P)
from_entry n puts = map (λ p. (n, p)) puts

-- an event without the number of the entry that put it
abbrev pub second : {P : Type 0} → ℕ × P → P
second x = x.1

-- what the entries put one after another, where some came before them and the first of them has this number
abbrev pub numbered_after : {E P : Type 0} → (List E → E → List P) → ℕ → List E → List E → List (ℕ × P)
numbered_after at n before [] = []
numbered_after at n before (e ∷ es) = from_entry n (at before e) ++ numbered_after at (suc n) (before ++ e ∷ []) es

-- what a whole journal puts, its entries counted from 0
abbrev pub numbered : {E P : Type 0} → (List E → E → List P) → List E → List (ℕ × P)
numbered at journal = numbered_after at 0 [] journal

-- the part of some numbered puts that goes one way
abbrev pub parted_one : {P V : Type 0} → (P → List V) → ℕ × P → List (ℕ × V)
parted_one part x = from_entry x.0 (part x.1)

abbrev pub parted : {P V : Type 0} → (P → List V) → List (ℕ × P) → List (ℕ × V)
parted part puts = flat_map (parted_one part) puts

-- what the steps of an actor put, step by step, each event with the number of its step
abbrev pub steps_numbered_from : {P : Type 0} → ℕ → List (List P) → List (ℕ × P)
steps_numbered_from n [] = []
steps_numbered_from n (step ∷ steps) = from_entry n step ++ steps_numbered_from (suc n) steps

abbrev pub steps_numbered : {P : Type 0} → List (List P) → List (ℕ × P)
steps_numbered steps = steps_numbered_from 0 steps
