-- believed: The crew of a script with its groups, and a seat that has done nothing yet.
use Rattle.std.specs.Prelude.{◌≡◌, List, map, IfSome}
use Rattle.std.specs.List.{All}
use Rattle.mama_script.specs.Script.{ScriptData}
use Rattle.mama_crew.specs.Crew.{actors_of}
use Rattle.mama_crew.specs.New as begun
use Rattle.mama_crew.specs.Hall.{HallValue, IsHallOf}
use Rattle.mama_grouped.specs.declared.seat.GroupedSeat.{GroupedSeat}
use Rattle.mama_grouped.specs.Seat.{actor_of, IsSeatOf}

pub record IsCrew {L H : Type 0} (script : ScriptData) (hall : HallValue) (seats : List (GroupedSeat L H)) : Type 0 where
  pub hall_is : IsHallOf script hall
  pub actors : map actor_of seats ≡ actors_of script.shape
  pub each : All (IsSeatOf script hall) seats

-- the seat has done nothing, and its groups were told nothing
pub record HasDoneNothing {L H : Type 0} (seat : GroupedSeat L H) : Type 0 where
  pub new : begun.HasDoneNothing seat.seat
  pub told : IfSome seat.hearing (λ hearing. hearing.told ≡ 0)
