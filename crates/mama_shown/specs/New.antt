-- inner: Seats of a crew that has done and shown nothing yet, while their boards come to them.
use Rattle.std.specs.Prelude.{◌≡◌, ℕ, List, [], ◌∷◌, ◌++◌, Option, Some, None, Result, Ok, Err}
use Rattle.mama_script.specs.Script.{ScriptData}
use Rattle.mama_crew.specs.Hall.{HallValue}
use Rattle.mama_grouped.specs.declared.seat.GroupedSeat.{GroupedSeat}
use Rattle.mama_board.specs.Values.{new_board}
use Rattle.mama_shown.specs.declared.showing.Showing.{Showing}
use Rattle.mama_shown.specs.declared.seat.ShownSeat.{ShownSeat}
use Rattle.mama_shown.specs.Seat.{IsSeatOf}
use Rattle.mama_shown.specs.Crew.{HasDoneNothing}

pub record IsNewSeatOf {L H R : Type 0} (script : ScriptData) (hall : HallValue) (s : ShownSeat L H R) : Type 0 where
  pub sits : IsSeatOf script hall s
  pub new : HasDoneNothing s

-- the board of this queue, on which nothing was set, and none where there is no queue
abbrev pub IsNewShowing : {R : Type 0} → List ℕ → Option (Showing R) → Type 0
IsNewShowing queues None = queues ≡ []
IsNewShowing queues (Some s) = (queues ≡ s.board.queue ∷ []) × (s.board ≡ new_board s.board.queue) × (s.shown ≡ 0) × (s.told ≡ None)

-- a seat with its board was added
pub record AddsSeat {L H R : Type 0} (script : ScriptData) (hall : HallValue) (seat : GroupedSeat L H) (old new : List (ShownSeat L H R)) : Type 0 where
  pub shown : ShownSeat L H R
  pub added : new ≡ old ++ shown ∷ []
  pub seat_is : shown.seat ≡ seat
  pub is_new : IsNewSeatOf script hall shown

-- a seat was added with its board, which was opened
abbrev pub AddsShown : {L H R E : Type 0} → GroupedSeat L H → Result (Option (Showing R)) E → List (ShownSeat L H R) → List (ShownSeat L H R) → Type 0
AddsShown seat (Ok showing) old new = new ≡ old ++ record { seat = seat; showing = showing } ∷ []
AddsShown seat (Err e) old new = ⊥
