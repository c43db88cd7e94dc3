-- believed: what is told of bytes and moments, and what becomes of it.
use Rattle.std.specs.Prelude.{◌≡◌, ℕ, ◌≤◌, List, [], ◌∷◌, ◌++◌, length, drop, Option, Some, IfSome}

-- where bytes were told, they were these bytes and then the ones that are told now
abbrev pub Gave : Option (List ℕ) → Option (List ℕ) → List ℕ → Type 0
Gave old new bytes = IfSome old (λ told. (left : List ℕ) × (told ≡ bytes ++ left) × (new ≡ Some left))

-- where bytes were told, the first n of them are gone
abbrev pub Lost : Option (List ℕ) → Option (List ℕ) → ℕ → Type 0
Lost old new n = IfSome old (λ told. (n ≤ length told) × (new ≡ Some (drop n told)))

-- where bytes were told, some number of them up to a limit is gone
abbrev pub LostAtMost : Option (List ℕ) → Option (List ℕ) → ℕ → Type 0
LostAtMost old new limit = (n : ℕ) × (n ≤ limit) × Lost old new n

-- where bytes were told, these bytes are told behind them
abbrev pub Appended : Option (List ℕ) → Option (List ℕ) → List ℕ → Type 0
Appended old new bytes = IfSome old (λ told. new ≡ Some (told ++ bytes))

-- where bytes were told, the same are told still
abbrev pub Kept : Option (List ℕ) → Option (List ℕ) → Type 0
Kept old new = IfSome old (λ told. new ≡ Some told)

-- the moments that are left after the first: it stays where it is the only one
abbrev pub after_first : List ℕ → List ℕ
after_first [] = []
after_first (moment ∷ []) = moment ∷ []
after_first (moment ∷ next ∷ moments) = next ∷ moments
