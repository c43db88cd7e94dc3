-- believed: The ends of a lane that is open and on which nothing was put.
use Rattle.std.specs.Prelude.{◌≡◌, ℕ, zero, suc, List, [], ◌∷◌}
use Rattle.mama_event.specs.declared.shape.Bounds.{Bounds}
use Rattle.mama_lane.specs.Values.{LaneValue, PortValue, new_port}

-- so many ports of a lane, from the one of this number on
abbrev pub ports_from : {N : Type 0} → LaneValue → ℕ → ℕ → List (PortValue N)
ports_from lane number zero = []
ports_from lane number (suc n) = new_port lane number ∷ ports_from lane (suc number) n

-- a lane within these bounds that has so many ports
pub record IsLaneOf (bounds : Bounds) (ports : ℕ) (lane : LaneValue) : Type 0 where
  pub bounds_are : lane.bounds ≡ bounds
  pub ports_are : lane.ports ≡ ports
