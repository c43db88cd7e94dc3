-- The seats of a new crew come to their boards, one after the other.
use Rattle.std.specs.Prelude.{IfOk, OnOk}
use Rattle.std.specs.List.{All}
use Rattle.std.proofs.Common.{◌≡◌, ℕ, List, [], ◌∷◌, ◌++◌, map, Option, None, Some, Result, Ok, Err, refl, sym, ap, ◌∙◌}
use Rattle.std.proofs.lemmas.List.{map-append}
use Rattle.std.proofs.lemmas.List.Elements.{All-push, All-same}
use Rattle.mama_script.specs.Script.{ScriptData}
use Rattle.mama_crew.specs.Hall.{HallValue}
use Rattle.mama_gather.proofs.Lists.{mapped_more}
use Rattle.mama_board.specs.Values.{BoardValue, new_board}
use Rattle.mama_grouped.specs.Seat as grouped
use Rattle.mama_grouped.specs.Crew as begun
use Rattle.mama_grouped.specs.declared.seat.GroupedSeat.{GroupedSeat}
use Rattle.mama_shown.specs.declared.showing.Showing.{Showing}
use Rattle.mama_shown.specs.declared.seat.ShownSeat.{ShownSeat}
use Rattle.mama_shown.specs.Seat.{actor_of, queue_in}
use Rattle.mama_shown.specs.New.{IsNewSeatOf, IsNewShowing, AddsSeat, AddsShown}
use Rattle.mama_shown.proofs.Turns.{opened, opened_alone}

-- the board of a queue of this number
pub showing_new : {R : Type 0} (s : Showing R) (number : ℕ) (queues : List ℕ) → number ∷ [] ≡ queues → s.board ≡ new_board number → s.shown ≡ 0 → s.told ≡ None → IsNewShowing queues (Some s)
showing_new s number queues queue board zero none =
    let same : number ≡ s.board.queue = sym (ap (λ (b : BoardValue). b.queue) board) in
    (sym queue ∙ ap (λ (n : ℕ). n ∷ []) same, board ∙ ap new_board same, zero, none)

-- a seat that was added with its board, on which nothing was set
seat_added : {L H R : Type 0} (script : ScriptData) (hall : HallValue) (seat : GroupedSeat L H) (showing : Option (Showing R)) (old new : List (ShownSeat L H R)) → grouped.IsSeatOf script hall seat → begun.HasDoneNothing seat
    → IsNewShowing (queue_in (grouped.actor_of seat)) showing → new ≡ old ++ record { seat = seat; showing = showing } ∷ [] → AddsSeat script hall seat old new
seat_added script hall seat None old new sits fresh none added = record {
  shown = record { seat = seat; showing = None };
  added = added;
  seat_is = refl;
  is_new = opened_alone script hall (record { seat = seat; showing = None }) sits fresh refl (sym none);
}
seat_added script hall seat (Some s) old new sits fresh first added = record {
  shown = record { seat = seat; showing = Some s };
  added = added;
  seat_is = refl;
  is_new = opened script hall (record { seat = seat; showing = Some s }) sits fresh s s.board.queue refl (sym first.0) first.1 first.2 first.3;
}

pub shown_added : {L H R E : Type 0} (script : ScriptData) (hall : HallValue) (seat : GroupedSeat L H) (showing : Result (Option (Showing R)) E) (old new : List (ShownSeat L H R)) → grouped.IsSeatOf script hall seat → begun.HasDoneNothing seat
    → IfOk showing (λ s. IsNewShowing (queue_in (grouped.actor_of seat)) s) → AddsShown seat showing old new → AddsSeat script hall seat old new
shown_added script hall seat (Ok showing) old new sits fresh first added = seat_added script hall seat showing old new sits fresh first added
shown_added script hall seat (Err e) old new sits fresh first added = absurd added

-- what holds where the board was opened
pub where_shown : {L H R E P : Type 0} (seat : GroupedSeat L H) (showing : Result (Option (Showing R)) E) (old new : List (ShownSeat L H R)) → OnOk showing P → AddsShown seat showing old new → P
where_shown seat (Ok showing) old new holds added = holds
where_shown seat (Err e) old new holds added = absurd added

-- ---- one seat more

pub actors_more : {L H R : Type 0} (script : ScriptData) (hall : HallValue) (before : List (GroupedSeat L H)) (seat : GroupedSeat L H) (done more : List (ShownSeat L H R)) → AddsSeat script hall seat done more
    → map actor_of done ≡ map grouped.actor_of before → map actor_of more ≡ map grouped.actor_of (before ++ seat ∷ [])
actors_more script hall before seat done more adds are = mapped_more grouped.actor_of before seat (map actor_of done) (map actor_of more) added are
  where
    added : map actor_of more ≡ map actor_of done ++ grouped.actor_of seat ∷ []
    added = ap (map actor_of) adds.added ∙ map-append actor_of done (adds.shown ∷ []) ∙ ap (λ s. map actor_of done ++ grouped.actor_of s ∷ []) adds.seat_is

pub seats_more : {L H R : Type 0} (script : ScriptData) (hall : HallValue) (seat : GroupedSeat L H) (done more : List (ShownSeat L H R)) → AddsSeat script hall seat done more → All (IsNewSeatOf script hall) done → All (IsNewSeatOf script hall) more
seats_more script hall seat done more adds are = All-same (IsNewSeatOf script hall) more (done ++ adds.shown ∷ []) adds.added (All-push (IsNewSeatOf script hall) done adds.shown are adds.is_new)
