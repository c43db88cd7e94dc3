-- believed: What the ports of a seat are, and that each puts what its actor puts there.
use Rattle.std.specs.Prelude.{◌≡◌, ℕ, List, [], ◌++◌, length, map, Some}
use Rattle.std.specs.List.{slice_get}
use Rattle.mama_event.specs.declared.shape.Bounds.{Bounds}
use Rattle.mama_lane.specs.Values.{LaneId, LaneValue, PortValue}

-- the lanes of some ports, in order
abbrev pub lanes_of : {N : Type 0} → List (PortValue N) → List LaneId
lanes_of ports = map (λ port. port.lane) ports

abbrev pub ids_of : List LaneValue → List LaneId
ids_of lanes = map (λ lane. lane.id) lanes

-- which port it is, whatever it has put
abbrev pub place_of : {N : Type 0} → PortValue N → PortValue N
place_of port = record port { put = [] }

-- a port of this number, within these bounds: what it put, and then what is left for it, is all that its actor puts there
pub record IsPutting {N : Type 0} (bounds : Bounds) (number : ℕ) (left whole : List N) (port : PortValue N) : Type 0 where
  pub bounds_are : port.bounds ≡ bounds
  pub number_is : port.number ≡ number
  pub put : port.put ++ left ≡ whole

-- so many ports, each of this number of the lane of the actor whose number is its index
pub record ArePutting {N : Type 0} (bounds : Bounds) (number count : ℕ) (left whole : ℕ → List N) (ports : List (PortValue N)) : Type 0 where
  pub count_is : length ports ≡ count
  pub each : (k : ℕ) (port : PortValue N) → slice_get ports k ≡ Some port → IsPutting bounds number (left k) (whole k) port
