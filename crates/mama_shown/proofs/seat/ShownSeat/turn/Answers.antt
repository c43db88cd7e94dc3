use Rattle.std.proofs.Common.{Some, refl}
use Rattle.mama_shown.proofs.Turns.{shows_before, sits_after, same_after, board_onward, idle_before, ended_before, step_made, sits_alone, same_alone, onward_alone, idle_alone, stepped_alone, ended_alone}
use Rattle.mama_shown.proofs.seat.ShownSeat.turn.Goals as goal

pub turn_queue-requires : goal.turn_queue-requires
turn_queue-requires g c =
    record { sits = c.requires.sits; shows = shows_before c.args.script.now c.args.hall.now c.args.self.now c.args.self.now c.in-Some.showing c.in-Some.showing c.in-Some.is c.in-Some.is c.requires }

pub returns-in-Some-clause-seat : goal.returns-in-Some-clause-seat
returns-in-Some-clause-seat g c = sits_after c.args.script.now c.args.hall.now c.args.self.now _ c.in-Some.showing c.turn_queue.new.showing c.in-Some.is refl c.turn_queue.ensures.sits c.turn_queue.ensures.shows

pub returns-in-Some-clause-waiting : goal.returns-in-Some-clause-waiting
returns-in-Some-clause-waiting g c = λ is.
    let waits = c.turn_queue.ensures.waiting is in (
      same_after c.args.script.now c.args.hall.now c.args.self.now _ c.in-Some.showing c.turn_queue.new.showing c.in-Some.is refl waits.0 waits.1,
      idle_before c.args.script.now c.args.hall.now c.args.self.now c.args.self.now c.in-Some.showing c.in-Some.showing c.in-Some.is c.in-Some.is waits.2 waits.3,
    )

pub returns-in-Some-clause-ended : goal.returns-in-Some-clause-ended
returns-in-Some-clause-ended g c =
    let told = ended_before c.args.script.now c.args.hall.now c.args.self.now c.args.self.now c.in-Some.showing c.in-Some.showing c.in-Some.is c.in-Some.is c.requires in
    ((λ is. told.0 (c.turn_queue.ensures.ended.0 is)), (λ e. c.turn_queue.ensures.ended.1 (told.1 e)))

pub returns-in-Some-clause-over : goal.returns-in-Some-clause-over
returns-in-Some-clause-over g c = λ is.
    let over = c.turn_queue.ensures.over is in
    same_after c.args.script.now c.args.hall.now c.args.self.now _ c.in-Some.showing c.turn_queue.new.showing c.in-Some.is refl over.0 over.1

pub returns-in-Some-clause-moved : goal.returns-in-Some-clause-moved
returns-in-Some-clause-moved g c = λ is.
    step_made c.args.script.now c.args.hall.now c.args.self.now _ c.in-Some.showing c.turn_queue.new.showing c.in-Some.is refl c.args.moment (c.turn_queue.ensures.moved is)

pub returns-in-None-clause-seat : goal.returns-in-None-clause-seat
returns-in-None-clause-seat g c = sits_alone c.args.script.now c.args.hall.now c.args.self.now _ c.in-None.is c.in-None.is c.turn.ensures.actor c.turn.ensures.seat c.requires

pub returns-in-None-clause-waiting : goal.returns-in-None-clause-waiting
returns-in-None-clause-waiting g c = λ is.
    let waits = c.turn.ensures.waiting is in (
      same_alone c.args.script.now c.args.hall.now c.args.self.now _ c.in-None.is c.in-None.is waits.0,
      idle_alone c.args.script.now c.args.hall.now c.args.self.now c.args.self.now c.in-None.is c.in-None.is waits.1,
    )

pub returns-in-None-clause-ended : goal.returns-in-None-clause-ended
returns-in-None-clause-ended g c =
    let same = ended_alone c.args.script.now c.args.hall.now c.args.self.now c.args.self.now c.in-None.is c.in-None.is in
    ((λ is. same.0 (c.turn.ensures.ended.0 is)), (λ e. c.turn.ensures.ended.1 (same.1 e)))

pub returns-in-None-clause-over : goal.returns-in-None-clause-over
returns-in-None-clause-over g c = λ is. same_alone c.args.script.now c.args.hall.now c.args.self.now _ c.in-None.is c.in-None.is (c.turn.ensures.over is)

pub returns-in-None-clause-moved : goal.returns-in-None-clause-moved
returns-in-None-clause-moved g c = λ is. stepped_alone c.args.script.now c.args.hall.now c.args.self.now _ c.in-None.is c.in-None.is c.args.moment (c.turn.ensures.moved is)

pub returns-in-Some-clause-actor : goal.returns-in-Some-clause-actor
returns-in-Some-clause-actor g c = c.turn_queue.ensures.actor

pub returns-in-Some-clause-grows : goal.returns-in-Some-clause-grows
returns-in-Some-clause-grows g c = c.turn_queue.ensures.grows

pub turn-requires : goal.turn-requires
turn-requires g c = c.requires.sits

pub returns-in-None-clause-actor : goal.returns-in-None-clause-actor
returns-in-None-clause-actor g c = c.turn.ensures.actor

pub returns-in-None-clause-grows : goal.returns-in-None-clause-grows
returns-in-None-clause-grows g c = c.turn.ensures.grows

pub returns-in-Some-clause-few : goal.returns-in-Some-clause-few
returns-in-Some-clause-few g c = c.turn_queue.ensures.few

pub returns-in-None-clause-few : goal.returns-in-None-clause-few
returns-in-None-clause-few g c = c.turn.ensures.few

pub returns-in-Some-clause-onward : goal.returns-in-Some-clause-onward
returns-in-Some-clause-onward g c =
    board_onward c.args.script.now c.args.hall.now c.args.self.now (record { seat = c.turn_queue.new.seat; showing = Some c.turn_queue.new.showing }) c.in-Some.showing c.turn_queue.new.showing c.in-Some.is refl c.turn_queue.ensures.onward

pub returns-in-None-clause-onward : goal.returns-in-None-clause-onward
returns-in-None-clause-onward g c = onward_alone c.args.script.now c.args.hall.now c.args.self.now (record c.args.self.now { seat = c.turn.new.self }) c.in-None.is c.in-None.is
