-- believed: What clauses see of a hall, and which ends of its lanes the seat of an actor has.
use Rattle.std.specs.Prelude.{◌≡◌, ℕ, ◌+◌, List, [], length, Some}
use Rattle.std.specs.List.{All, slice_get}
use Rattle.mama_event.specs.declared.shape.Shape.{Shape}
use Rattle.mama_event.specs.Ports.{publishers_of, queues_of, bridge_ports, timers_port_of_bridge}
use Rattle.mama_script.specs.Script.{ScriptData}
use Rattle.mama_rules_rounds.specs.Client.{Planned}
use Rattle.mama_rules_rounds.specs.Sections.{setting_of}
use Rattle.mama_hall.specs.Ends.{IsLaneOf}
use Rattle.mama_lane.specs.Values.{LaneId, LaneValue, PortValue}
use Rattle.mama_posts_services.specs.Ports.{ids_of}

-- the objects with their plans, and the lanes: the bridge's, the timer service's, and those of publishers and queues in order
pub record HallValue : Type 0 where
  pub objects : List Planned
  pub to_bridge : LaneValue
  pub to_timers : LaneValue
  pub to_publishers : List LaneValue
  pub to_queues : List LaneValue

-- the port of this number of a lane
pub record IsPortAt {N : Type 0} (lane : LaneValue) (number : ℕ) (port : PortValue N) : Type 0 where
  pub lane_is : port.lane ≡ lane.id
  pub number_is : port.number ≡ number

-- the lane of this index is that of the id
abbrev pub IsLaneAt : List LaneValue → ℕ → LaneId → Type 0
IsLaneAt lanes k id = slice_get (ids_of lanes) k ≡ Some id

-- a lane of each actor of the shape, with as many ports as there are actors that put on it
pub record AreLanesOf (shape : Shape) (hall : HallValue) : Type 0 where
  pub to_bridge : IsLaneOf shape.bounds (bridge_ports shape) hall.to_bridge
  pub to_timers : IsLaneOf shape.bounds (timers_port_of_bridge shape + 1) hall.to_timers
  pub publishers_count : length hall.to_publishers ≡ publishers_of shape
  pub to_publishers : All (IsLaneOf shape.bounds 1) hall.to_publishers
  pub queues_count : length hall.to_queues ≡ queues_of shape
  pub to_queues : All (IsLaneOf shape.bounds 2) hall.to_queues

-- the hall of a script: it has the script's objects with their plans, and the lanes of its actors
pub record IsHallOf (script : ScriptData) (hall : HallValue) : Type 0 where
  pub objects : hall.objects ≡ (setting_of script).objects
  pub lanes : AreLanesOf script.shape hall

-- a port that has put nothing
abbrev pub IsFresh : {N : Type 0} → PortValue N → Type 0
IsFresh port = port.put ≡ []
