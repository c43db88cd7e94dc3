-- believed: The crew of a script whose queues show their images, and a seat of it that has done nothing yet.
use Rattle.std.specs.Prelude.{◌≡◌, List, map, Option, Some, None, ⊤}
use Rattle.std.specs.List.{All}
use Rattle.mama_script.specs.Script.{ScriptData}
use Rattle.mama_crew.specs.Hall.{HallValue, IsHallOf}
use Rattle.mama_crew.specs.Crew.{actors_of}
use Rattle.mama_grouped.specs.Crew as begun
use Rattle.mama_board.specs.Values.{new_board}
use Rattle.mama_shown.specs.declared.showing.Showing.{Showing}
use Rattle.mama_shown.specs.declared.seat.ShownSeat.{ShownSeat}
use Rattle.mama_shown.specs.Seat.{actor_of, IsSeatOf}

-- The crew of a script: the hall is the script's, and each actor of the script has its seat in it, in order.
pub record IsCrew {L H R : Type 0} (script : ScriptData) (hall : HallValue) (seats : List (ShownSeat L H R)) : Type 0 where
  pub hall_is : IsHallOf script hall
  pub actors : map actor_of seats ≡ actors_of script.shape
  pub each : All (IsSeatOf script hall) seats

-- a board, where there is one (a queue's seat has one), on which nothing was set
abbrev pub HasShownNothing : {R : Type 0} → Option (Showing R) → Type 0
HasShownNothing None = ⊤
HasShownNothing (Some s) = (s.board ≡ new_board s.board.queue) × (s.shown ≡ 0) × (s.told ≡ None)

-- nothing was done, told or shown yet
pub record HasDoneNothing {L H R : Type 0} (s : ShownSeat L H R) : Type 0 where
  pub seat : begun.HasDoneNothing s.seat
  pub showing : HasShownNothing s.showing
