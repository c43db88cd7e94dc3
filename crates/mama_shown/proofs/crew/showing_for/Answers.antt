use Rattle.std.proofs.Common.{sym, refl, ◌∙◌, ap}
use Rattle.std.proofs.lemmas.Result.{IfOk-from_err}
use Rattle.mama_board.specs.Values.{new_reader}
use Rattle.mama_shown.specs.Seat.{queue_in}
use Rattle.mama_shown.proofs.Queues.{reader_more, reader_none}
use Rattle.mama_shown.proofs.NewSeats.{showing_new}
use Rattle.mama_shown.proofs.crew.showing_for.Goals as goal

pub returns-in_ok-showing-in-Some-clause-showing : goal.returns-in_ok-showing-in-Some-clause-showing
returns-in_ok-showing-in-Some-clause-showing g c =
    let first = c.in_ok-showing-in-Some.ensures.new in
    showing_new c.in_ok-showing-in-Some.showing c.in-Some.number _ (c.in-Some.ensures ∙ ap queue_in c.actor.ensures) c.in_ok-showing-in-Some.ensures.board first.0 first.1

pub returns-in_ok-showing-in-Some-clause-readers : goal.returns-in_ok-showing-in-Some-clause-readers
returns-in_ok-showing-in-Some-clause-readers g c =
    reader_more c.args.readers.now.items c.board_of.new.readers.items (new_reader c.in-Some.number) c.in-Some.number _ c.in_ok-showing-in-Some.ensures.readers refl (c.in-Some.ensures ∙ ap queue_in c.actor.ensures)

pub returns-in_err-showing-in-Some-clause-showing : goal.returns-in_err-showing-in-Some-clause-showing
returns-in_err-showing-in-Some-clause-showing g c = IfOk-from_err c.from_residual.result _ c.from_residual.ensures.0

pub returns-in_err-showing-in-Some-clause-readers : goal.returns-in_err-showing-in-Some-clause-readers
returns-in_err-showing-in-Some-clause-readers g c = IfOk-from_err c.from_residual.result _ c.from_residual.ensures.0

pub returns-in-None-clause-showing : goal.returns-in-None-clause-showing
returns-in-None-clause-showing g c = sym (c.in-None.ensures ∙ ap queue_in c.actor.ensures)

pub returns-in-None-clause-readers : goal.returns-in-None-clause-readers
returns-in-None-clause-readers g c = reader_none c.args.readers.now.items _ (c.in-None.ensures ∙ ap queue_in c.actor.ensures)
