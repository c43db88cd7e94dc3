-- believed: Draws of numbers, and what is made by draws.
use Rattle.std.specs.Prelude.{ℕ, zero, suc, ◌+◌, ◌*◌, ◌/◌, ◌%◌, ◌^◌, List, [], ◌∷◌, ◌++◌}

-- the state behind a draw, in 64 bits
abbrev pub next : ℕ → ℕ
next state = (state * 6364136223846793005 + 1442695040888963407) % 2 ^ 64

-- what is made by draws from a state, and the state behind them
abbrev pub Drawn : Type 0 → Type 0
Drawn A = ℕ → A × ℕ

-- a number below this one
abbrev pub draw : ℕ → Drawn ℕ
draw below state = (next state / 2 ^ 33 % below, next state)

-- what needs no draw
abbrev pub give : {A : Type 0} → A → Drawn A
give x state = (x, state)

-- first the one, and then what it leads to
infixl 10 ◌>>=◌
abbrev pub ◌>>=◌ : {A B : Type 0} → Drawn A → (A → Drawn B) → Drawn B
(make >>= more) state = more (make state).0 (make state).1

-- one for each number below n, in order
unfoldable pub each : {A : Type 0} → ℕ → (ℕ → Drawn A) → Drawn (List A)
each zero make = give []
each (suc n) make = do
  before ← each n make
  one ← make n
  give (before ++ one ∷ [])
