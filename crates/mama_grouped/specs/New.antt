-- inner: Seats of a crew that has done nothing yet, while they come to the groups of their queues.
use Rattle.std.specs.Prelude.{◌≡◌, ℕ, List, [], ◌∷◌, ◌++◌, map, Option, Result, Ok, Err}
use Rattle.std.specs.List.{All, flat_map}
use Rattle.mama_event.specs.declared.group.GroupRow.{GroupRow}
use Rattle.mama_script.specs.Script.{ScriptData}
use Rattle.mama_rules_rounds.specs.Sections.{setting_of}
use Rattle.mama_crew.specs.Hall.{HallValue}
use Rattle.mama_crew.specs.Seat as crew
use Rattle.mama_crew.specs.declared.seat.Seat.{Seat}
use Rattle.mama_grouped.specs.declared.hearing.Hearing.{Hearing}
use Rattle.mama_grouped.specs.declared.seat.GroupedSeat.{GroupedSeat}
use Rattle.mama_grouped.specs.Crew.{HasDoneNothing}
use Rattle.mama_grouped.specs.Opening.{rows_of_actor}
use Rattle.mama_grouped.specs.Seat.{actor_of, IsSeatOf}

pub record IsNewSeatOf {L H : Type 0} (script : ScriptData) (hall : HallValue) (seat : GroupedSeat L H) : Type 0 where
  pub sits : IsSeatOf script hall seat
  pub new : HasDoneNothing seat

-- these are the lists of groups of the seats that are queues', in their order
pub record AreRowsOf {L : Type 0} (script : ScriptData) (seats : List (Seat L)) (lists : List (List (ℕ × GroupRow))) : Type 0 where
  pub rows : lists ≡ flat_map (rows_of_actor (setting_of script).groups) (map crew.actor_of seats)

-- the lists of a seat are first among these
pub record HasRows {L : Type 0} (script : ScriptData) (seat : Seat L) (lists : List (List (ℕ × GroupRow))) : Type 0 where
  pub others : List (List (ℕ × GroupRow))
  pub first : lists ≡ rows_of_actor (setting_of script).groups (crew.actor_of seat) ++ others

-- a seat took its own lists
pub record TakesOwn {L : Type 0} (script : ScriptData) (seat : Seat L) (before after : List (List (ℕ × GroupRow))) : Type 0 where
  pub left : (others : List (List (ℕ × GroupRow))) → before ≡ rows_of_actor (setting_of script).groups (crew.actor_of seat) ++ others → after ≡ others

-- a seat with its groups was added
pub record AddsSeat {L H : Type 0} (script : ScriptData) (hall : HallValue) (seat : Seat L) (old new : List (GroupedSeat L H)) : Type 0 where
  pub grouped : GroupedSeat L H
  pub added : new ≡ old ++ grouped ∷ []
  pub actor : actor_of grouped ≡ crew.actor_of seat
  pub is_new : IsNewSeatOf script hall grouped

-- a seat was added with its groups, which were found
abbrev pub AddsHeard : {L H E : Type 0} → Seat L → Result (Option (Hearing H)) E → List (GroupedSeat L H) → List (GroupedSeat L H) → Type 0
AddsHeard seat (Ok hearing) old new = new ≡ old ++ record { seat = seat; hearing = hearing } ∷ []
AddsHeard seat (Err e) old new = ⊥

-- some seats have their groups, and the lists that are left are those of the seats that are left
pub record AreGrouped {L H : Type 0} (script : ScriptData) (hall : HallValue) (before left : List (Seat L)) (held : List (List (ℕ × GroupRow))) (done : List (GroupedSeat L H)) : Type 0 where
  pub lists : AreRowsOf script left held
  pub actors : map actor_of done ≡ map crew.actor_of before
  pub seats : All (IsNewSeatOf script hall) done
