-- The seats of a new crew come to the groups of their queues, one after the other.
use Rattle.std.specs.Prelude.{IfSome, IfOk, OnOk}
use Rattle.std.specs.List.{All, flat_map}
use Rattle.std.proofs.Common.{◌≡◌, ℕ, List, [], ◌∷◌, ◌++◌, map, Option, Result, Ok, Err, refl, sym, ap, subst, ◌∙◌}
use Rattle.std.proofs.lemmas.List.{map-append}
use Rattle.std.proofs.lemmas.List.Elements.{All-nil, All-push, All-same}
use Rattle.mama_event.specs.declared.group.GroupRow.{GroupRow}
use Rattle.mama_script.specs.Script.{ScriptData}
use Rattle.mama_rules_rounds.specs.Sections.{setting_of}
use Rattle.mama_crew.specs.Hall.{HallValue}
use Rattle.mama_crew.specs.New as begun
use Rattle.mama_crew.specs.Seat as crew
use Rattle.mama_crew.specs.declared.seat.Seat.{Seat}
use Rattle.mama_gather.proofs.Lists.{mapped_more, whole_all}
use Rattle.mama_grouped.specs.declared.hearing.Hearing.{Hearing}
use Rattle.mama_grouped.specs.declared.seat.GroupedSeat.{GroupedSeat}
use Rattle.mama_grouped.specs.New.{IsNewSeatOf, AreRowsOf, HasRows, TakesOwn, AddsSeat, AddsHeard, AreGrouped}
use Rattle.mama_grouped.specs.Opening.{rows_of_actor}
use Rattle.mama_grouped.specs.Seat.{actor_of, Hears}

-- a seat that was added with what its groups heard, which is nothing
pub seat_added : {L H : Type 0} (script : ScriptData) (hall : HallValue) (seat : Seat L) (hearing : Option (Hearing H)) (old new : List (GroupedSeat L H)) → crew.IsSeatOf script hall seat → begun.HasDoneNothing seat
    → Hears script hall seat hearing → IfSome hearing (λ h. h.told ≡ 0) → new ≡ old ++ record { seat = seat; hearing = hearing } ∷ [] → AddsSeat script hall seat old new
seat_added script hall seat hearing old new sits fresh hears told added = record {
  grouped = record { seat = seat; hearing = hearing };
  added = added;
  actor = refl;
  is_new = record { sits = record { sits = sits; hears = hears }; new = record { new = fresh; told = told } };
}

pub heard_added : {L H E : Type 0} (script : ScriptData) (hall : HallValue) (seat : Seat L) (hearing : Result (Option (Hearing H)) E) (old new : List (GroupedSeat L H)) → crew.IsSeatOf script hall seat → begun.HasDoneNothing seat
    → IfOk hearing (λ h. Hears script hall seat h) → IfOk hearing (λ h. IfSome h (λ w. w.told ≡ 0)) → AddsHeard seat hearing old new → AddsSeat script hall seat old new
heard_added script hall seat (Ok hearing) old new sits fresh hears told added = seat_added script hall seat hearing old new sits fresh hears told added
heard_added script hall seat (Err e) old new sits fresh hears told added = absurd added

-- what holds where the groups were found
pub where_heard : {L H E P : Type 0} (seat : Seat L) (hearing : Result (Option (Hearing H)) E) (old new : List (GroupedSeat L H)) → OnOk hearing P → AddsHeard seat hearing old new → P
where_heard seat (Ok hearing) old new holds added = holds
where_heard seat (Err e) old new holds added = absurd added

pub none_grouped : {L H : Type 0} (script : ScriptData) (hall : HallValue) (seats left : List (Seat L)) (lists : List (List (ℕ × GroupRow))) (done : List (GroupedSeat L H))
    → left ≡ seats → done ≡ [] → AreRowsOf script seats lists → AreGrouped script hall [] left lists done
none_grouped {L} script hall seats left lists done all none is = record {
  lists = subst (λ (ss : List (Seat L)). AreRowsOf script ss lists) (sym all) is;
  actors = ap (map actor_of) none;
  seats = All-same (IsNewSeatOf script hall) done [] none (All-nil (IsNewSeatOf script hall));
}

pub rows_next : {L H : Type 0} (script : ScriptData) (hall : HallValue) (before left rest : List (Seat L)) (seat : Seat L) (lists : List (List (ℕ × GroupRow))) (done : List (GroupedSeat L H))
    → left ≡ seat ∷ rest → AreGrouped script hall before left lists done → HasRows script seat lists
rows_next {L} script hall before left rest seat lists done first are = record {
  others = flat_map (rows_of_actor (setting_of script).groups) (map crew.actor_of rest);
  first = (subst (λ (ss : List (Seat L)). AreRowsOf script ss lists) first are.lists).rows;
}

pub grouped_more : {L H : Type 0} (script : ScriptData) (hall : HallValue) (before left rest : List (Seat L)) (seat : Seat L) (lists after : List (List (ℕ × GroupRow))) (done more : List (GroupedSeat L H))
    → left ≡ seat ∷ rest → TakesOwn script seat lists after → AddsSeat script hall seat done more → AreGrouped script hall before left lists done
    → AreGrouped script hall (before ++ seat ∷ []) rest after more
grouped_more {L} script hall before left rest seat lists after done more first takes adds are = record {
  lists = record { rows = takes.left (flat_map (rows_of_actor (setting_of script).groups) (map crew.actor_of rest)) (subst (λ (ss : List (Seat L)). AreRowsOf script ss lists) first are.lists).rows };
  actors = mapped_more crew.actor_of before seat (map actor_of done) (map actor_of more) (added adds) are.actors;
  seats = All-same (IsNewSeatOf script hall) more (done ++ adds.grouped ∷ []) adds.added (All-push (IsNewSeatOf script hall) done adds.grouped are.seats adds.is_new);
}
  where
    added : AddsSeat script hall seat done more → map actor_of more ≡ map actor_of done ++ crew.actor_of seat ∷ []
    added adds = ap (map actor_of) adds.added ∙ map-append actor_of done (adds.grouped ∷ []) ∙ ap (λ a. map actor_of done ++ a ∷ []) adds.actor

pub all_actors : {L H : Type 0} (script : ScriptData) (hall : HallValue) (seats before left : List (Seat L)) (lists : List (List (ℕ × GroupRow))) (done : List (GroupedSeat L H))
    → before ++ left ≡ seats → left ≡ [] → AreGrouped script hall before left lists done → map actor_of done ≡ map crew.actor_of seats
all_actors script hall seats before left lists done whole none are = are.actors ∙ ap (map crew.actor_of) (whole_all before left seats none whole)
