-- believed: The crew of a script, and a seat that has done nothing yet.
use Rattle.std.specs.Prelude.{◌≡◌, List, ◌∷◌, ◌++◌, map}
use Rattle.std.specs.List.{All}
use Rattle.mama_journal.specs.Journal.{numbers_below}
use Rattle.mama_edge.specs.declared.gate.GateActor.{GateActor}
use Rattle.mama_edge.specs.declared.gate.GateActor.TheVariants as gate
use Rattle.mama_event.specs.declared.shape.Shape.{Shape}
use Rattle.mama_event.specs.Ports.{clients_of, publishers_of, queues_of}
use Rattle.mama_script.specs.Script.{ScriptData}
use Rattle.mama_crew.specs.Hall.{HallValue, IsHallOf}
use Rattle.mama_crew.specs.declared.seat.Seat.{Seat}
use Rattle.mama_crew.specs.Seat.{actor_of, IsSeatOf}

-- the actors of each kind, in the order of their numbers
abbrev pub client_actors : Shape → List GateActor
client_actors shape = map (λ c. gate.Client c) (numbers_below (clients_of shape))

abbrev pub publisher_actors : Shape → List GateActor
publisher_actors shape = map (λ p. gate.Publisher p) (numbers_below (publishers_of shape))

abbrev pub queue_actors : Shape → List GateActor
queue_actors shape = map (λ q. gate.Queue q) (numbers_below (queues_of shape))

-- the actors of a shape: clients, publishers, the bridge, the timer service and queues
abbrev pub actors_of : Shape → List GateActor
actors_of shape = client_actors shape ++ (publisher_actors shape ++ (gate.Bridge ∷ gate.Timers ∷ queue_actors shape))

-- The crew of a script: the hall is the script's, and each actor of the script has its seat in it, in order.
pub record IsCrew {L : Type 0} (script : ScriptData) (hall : HallValue) (seats : List (Seat L)) : Type 0 where
  pub hall_is : IsHallOf script hall
  pub actors : map actor_of seats ≡ actors_of script.shape
  pub each : All (IsSeatOf script hall) seats
