use Rattle.std.proofs.Common.{map, ◌∙◌, ap}
use Rattle.std.proofs.lemmas.List.Elements.{All-weaker}
use Rattle.std.proofs.lemmas.Result.{IfOk-from_err}
use Rattle.mama_board.specs.Values.{new_reader}
use Rattle.mama_grouped.specs.Seat as grouped
use Rattle.mama_shown.specs.Seat.{IsSeatOf}
use Rattle.mama_shown.specs.Crew.{HasDoneNothing}
use Rattle.mama_shown.specs.New.{IsNewSeatOf}
use Rattle.mama_shown.proofs.Queues.{queues_numbered}
use Rattle.mama_shown.proofs.crew.open_shown.Goals as goal

pub with_boards-requires : goal.with_boards-requires
with_boards-requires g c = record { sits = c.in_ok-hall.ensures.crew.each; new = c.in_ok-hall.ensures.new }

pub returns-clause-crew : goal.returns-clause-crew
returns-clause-crew g c = record {
  hall_is = c.in_ok-hall.ensures.crew.hall_is;
  actors = c.in_ok-seats.ensures.actors ∙ c.in_ok-hall.ensures.crew.actors;
  each = All-weaker (IsNewSeatOf c.args.script.now c.in_ok-hall.field-0.hall) (IsSeatOf c.args.script.now c.in_ok-hall.field-0.hall) (λ seat is. is.sits) _ c.in_ok-seats.ensures.seats;
}

pub returns-clause-new : goal.returns-clause-new
returns-clause-new g c = All-weaker (IsNewSeatOf c.args.script.now c.in_ok-hall.field-0.hall) HasDoneNothing (λ seat is. is.new) _ c.in_ok-seats.ensures.seats

pub returns-clause-readers : goal.returns-clause-readers
returns-clause-readers g c = c.in_ok-seats.ensures.readers ∙ ap (map new_reader) (queues_numbered grouped.actor_of c.in_ok-hall.field-0.seats.items c.args.script.now.shape c.in_ok-hall.ensures.crew.actors)

pub returns-in_err-hall-clause-crew : goal.returns-in_err-hall-clause-crew
returns-in_err-hall-clause-crew g c = IfOk-from_err c.from_residual.result _ c.from_residual.ensures.0

pub returns-in_err-hall-clause-new : goal.returns-in_err-hall-clause-new
returns-in_err-hall-clause-new g c = IfOk-from_err c.from_residual.result _ c.from_residual.ensures.0

pub returns-in_err-hall-clause-readers : goal.returns-in_err-hall-clause-readers
returns-in_err-hall-clause-readers g c = IfOk-from_err c.from_residual.result _ c.from_residual.ensures.0

pub returns-in_err-seats-clause-crew : goal.returns-in_err-seats-clause-crew
returns-in_err-seats-clause-crew g c = IfOk-from_err c.from_residual-in_err-seats.result _ c.from_residual-in_err-seats.ensures.0

pub returns-in_err-seats-clause-new : goal.returns-in_err-seats-clause-new
returns-in_err-seats-clause-new g c = IfOk-from_err c.from_residual-in_err-seats.result _ c.from_residual-in_err-seats.ensures.0

pub returns-in_err-seats-clause-readers : goal.returns-in_err-seats-clause-readers
returns-in_err-seats-clause-readers g c = IfOk-from_err c.from_residual-in_err-seats.result _ c.from_residual-in_err-seats.ensures.0
