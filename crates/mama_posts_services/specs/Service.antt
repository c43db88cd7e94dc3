-- believed: What the seats of the bridge and of the timer service keep alike: what was taken, and when all is done.
use Rattle.std.specs.Prelude.{◌≡◌, ℕ, Bool, true, List, [], ◌∷◌, ◌++◌}
use Rattle.std.specs.List.{All}
use mathlib.Core.List.{IsPrefix}
use Rattle.mama_event.specs.declared.shape.Shape.{Shape}
use Rattle.mama_event.specs.declared.shape.Bounds.{Bounds}
use Rattle.mama_journal.specs.Lane.{by_port}
use Rattle.mama_lane.specs.Values.{TakerValue}
use Rattle.mama_ends.specs.Inlet.{InletValue, AreLawful}

-- a service: its shape, its journal, by which it takes, and what it has left to put
pub record ServiceValue (N P : Type 0) : Type 0 where
  pub shape : Shape
  pub journal : List (ℕ × N)
  pub inlet : InletValue N
  pub left : List P

-- The service of a shape, which takes by so many ports. What it took is its journal's and then what is kept; it came by
-- ports that are there, and of each it is what the port may put. Once the last event was taken, nothing is kept.
pub record IsTaking {N P : Type 0} (shape : Shape) (ports : ℕ) (may_come : Bounds → ℕ → List N → Type 0) (is_over : List (ℕ × N) → Bool) (service : ServiceValue N P) : Type 0 where
  pub shape_is : service.shape ≡ shape
  pub ports_are : service.inlet.taker.ports ≡ ports
  pub bounds_are : service.inlet.taker.bounds ≡ shape.bounds
  pub taken : service.inlet.taker.taken ≡ service.journal ++ service.inlet.kept
  pub lawful : AreLawful may_come service.inlet.taker
  pub over : is_over service.journal ≡ true → service.inlet.kept ≡ []

-- it has ended: the last event was taken, and nothing is left
pub record HasEnded {N P : Type 0} (is_over : List (ℕ × N) → Bool) (service : ServiceValue N P) : Type 0 where
  pub over : is_over service.journal ≡ true
  pub left : service.left ≡ []

-- there is nothing to do: nothing is left, nothing is kept, and all was taken that the notes name which it learnt
pub record IsIdle {N P : Type 0} (service : ServiceValue N P) : Type 0 where
  pub left : service.left ≡ []
  pub kept : service.inlet.kept ≡ []
  pub caught_up : All (λ note. IsPrefix note.1 (by_port note.0 service.inlet.taker.taken)) service.inlet.taker.learnt

-- A step: what was left was put, and nothing else changed; or, where nothing was left, an event was taken.
pub data MadeStep {N P : Type 0} (old new : ServiceValue N P) : Type 0 where
  finished : (first : P) (rest : List P) → old.left ≡ first ∷ rest → new.journal ≡ old.journal → new.inlet ≡ old.inlet → MadeStep old new
  took : (port : ℕ) (note : N) → old.left ≡ [] → new.journal ≡ old.journal ++ (port, note) ∷ [] → new.inlet.kept ≡ [] → MadeStep old new

-- the taker of a lane with so many ports, which has taken nothing
pub record IsNewTaker {N : Type 0} (bounds : Bounds) (ports : ℕ) (taker : TakerValue N) : Type 0 where
  pub taken : taker.taken ≡ []
  pub ports_are : taker.ports ≡ ports
  pub bounds_are : taker.bounds ≡ bounds

-- the service, where an event that was fetched, with its port, counts as kept
abbrev pub holding : {N P : Type 0} → ServiceValue N P → ℕ → N → ServiceValue N P
holding service port note = record service { inlet = record service.inlet { kept = (port, note) ∷ [] } }
