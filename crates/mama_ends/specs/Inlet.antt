-- believed: What clauses see of an inlet.
use Rattle.std.specs.Prelude.{ℕ, ◌<◌, List, [], ◌∷◌, Option, None, Some}
use Rattle.std.specs.List.{All}
use Rattle.mama_event.specs.declared.shape.Bounds.{Bounds}
use Rattle.mama_journal.specs.Lane.{by_port}
use Rattle.mama_lane.specs.Values.{TakerValue}

-- a taker, and the event that is kept, with its port, if one is
pub record InletValue (N : Type 0) : Type 0 where
  pub taker : TakerValue N
  pub kept : List (ℕ × N)

abbrev pub kept_notes : {E N : Type 0} → (E → N) → Option (ℕ × E) → List (ℕ × N)
kept_notes noted None = []
kept_notes noted (Some x) = (x.0, noted x.1) ∷ []

-- what was taken came from ports that are there, and of each port it is what the port may put
pub record AreLawful {N : Type 0} (lawful : Bounds → ℕ → List N → Type 0) (taker : TakerValue N) : Type 0 where
  pub ports : All (λ (e : ℕ × N). e.0 < taker.ports) taker.taken
  pub each : (port : ℕ) → lawful taker.bounds port (by_port port taker.taken)
