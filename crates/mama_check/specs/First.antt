-- believed: The first of some actors that breaks a rule.
use Rattle.std.specs.Prelude.{ℕ, ◌<◌, Option, None, Some}

-- Of the actors numbered below n the first that does not keep a rule; none, where all keep it.
abbrev pub IsFirst : (ℕ → Type 0) → ℕ → Option ℕ → Type 0
IsFirst Keeps n None = (k : ℕ) → k < n → Keeps k
IsFirst Keeps n (Some k) = (k < n) × (Keeps k → ⊥) × ((j : ℕ) → j < k → Keeps j)
