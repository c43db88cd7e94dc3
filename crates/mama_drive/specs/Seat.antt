-- inner: The bridge and the timer service with what waits on their lanes, as plain data.
use Rattle.std.specs.Prelude.{ℕ, List, [], ◌∷◌, ◌++◌}
use Rattle.mama_event.specs.declared.shape.Shape.{Shape}

-- one of them: its shape, its journal, and its lane
pub record ServiceSeat (V : Type 0) : Type 0 where
  pub shape : Shape
  pub journal : List (ℕ × V)
  pub lane : List (ℕ × V)

-- it takes the first event of its lane
abbrev pub took : {V : Type 0} → ServiceSeat V → List (ℕ × V) → ServiceSeat V
took s [] = s
took s (e ∷ rest) = record s { lane = rest; journal = s.journal ++ e ∷ [] }

-- what it puts then, by its rules
abbrev pub took_puts : {V P : Type 0} → (Shape → List (ℕ × V) → ℕ × V → List P) → ServiceSeat V → List (ℕ × V) → List P
took_puts puts_at s [] = []
took_puts puts_at s (e ∷ rest) = puts_at s.shape s.journal e
