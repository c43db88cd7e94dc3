use Rattle.std.specs.Prelude.{IfSome}
use Rattle.std.proofs.Common.{◌≡◌, None, Some, length, sym, ap, subst}
use Rattle.mama_crew.specs.Seat.{journal_in}
use Rattle.mama_grouped.specs.Seat.{Hears, stepped}
use Rattle.mama_grouped.proofs.Turning.{still_unheard, seat_as, step_made}
use Rattle.mama_grouped.proofs.seat.GroupedSeat.turn.Goals as goal

pub turn_queue-requires-clause-sits : goal.turn_queue-requires-clause-sits
turn_queue-requires-clause-sits g c = c.requires.sits

pub turn_queue-requires-clause-hears : goal.turn_queue-requires-clause-hears
turn_queue-requires-clause-hears g c = subst (Hears c.args.script.now c.args.hall.now c.args.self.now.seat) c.in-Some.is c.requires.hears

pub returns-in-Some-clause-seat : goal.returns-in-Some-clause-seat
returns-in-Some-clause-seat g c = record { sits = c.turn_queue.ensures.sits; hears = c.turn_queue.ensures.hears }

pub returns-in-None-clause-seat : goal.returns-in-None-clause-seat
returns-in-None-clause-seat g c = record {
  sits = c.turn.ensures.seat;
  hears =
      subst (Hears c.args.script.now c.args.hall.now c.turn.new.self) (sym c.in-None.is)
      (still_unheard g.row.H.Denot c.args.script.now c.args.hall.now c.args.self.now.seat c.turn.new.self c.turn.ensures.actor (subst (Hears c.args.script.now c.args.hall.now c.args.self.now.seat) c.in-None.is c.requires.hears));
}

pub returns-in-Some-clause-waiting : goal.returns-in-Some-clause-waiting
returns-in-Some-clause-waiting g c = λ is.
    let w = c.turn_queue.ensures.waiting is in (
      seat_as c.args.self.now c.turn_queue.new.seat c.in-Some.hearing c.turn_queue.new.hearing c.in-Some.is w.0 w.1,
      record { idle = w.2; told = subst (λ o. IfSome o (λ h. length (journal_in c.args.self.now.seat) ≡ h.told)) (sym c.in-Some.is) w.3 },
    )

pub returns-in-Some-clause-ended : goal.returns-in-Some-clause-ended
returns-in-Some-clause-ended g c = (
  λ is.
      let e = c.turn_queue.ensures.ended.0 is in
      record { seat_ended = e.0; told = subst (λ o. IfSome o (λ h. length (journal_in c.args.self.now.seat) ≡ h.told)) (sym c.in-Some.is) e.1 },
  λ end. c.turn_queue.ensures.ended.1 (end.seat_ended, subst (λ o. IfSome o (λ h. length (journal_in c.args.self.now.seat) ≡ h.told)) c.in-Some.is end.told),
)

pub returns-in-Some-clause-over : goal.returns-in-Some-clause-over
returns-in-Some-clause-over g c = λ is.
    let o = c.turn_queue.ensures.over is in
    seat_as c.args.self.now c.turn_queue.new.seat c.in-Some.hearing c.turn_queue.new.hearing c.in-Some.is o.0 o.1

pub returns-in-Some-clause-moved : goal.returns-in-Some-clause-moved
returns-in-Some-clause-moved g c = λ is.
    step_made c.args.script.now c.args.moment c.args.self.now c.turn_queue.new.seat c.in-Some.hearing c.turn_queue.new.hearing c.in-Some.is (c.turn_queue.ensures.moved is)

pub returns-in-None-clause-waiting : goal.returns-in-None-clause-waiting
returns-in-None-clause-waiting g c = λ is.
    let w = c.turn.ensures.waiting is in (
      ap (λ s. record c.args.self.now { seat = s }) w.0,
      record { idle = w.1; told = subst (λ o. IfSome o (λ h. length (journal_in c.args.self.now.seat) ≡ h.told)) (sym c.in-None.is) tt },
    )

pub returns-in-None-clause-ended : goal.returns-in-None-clause-ended
returns-in-None-clause-ended g c = (
  λ is. record { seat_ended = c.turn.ensures.ended.0 is; told = subst (λ o. IfSome o (λ h. length (journal_in c.args.self.now.seat) ≡ h.told)) (sym c.in-None.is) tt },
  λ end. c.turn.ensures.ended.1 end.seat_ended,
)

pub returns-in-None-clause-over : goal.returns-in-None-clause-over
returns-in-None-clause-over g c = λ is. ap (λ s. record c.args.self.now { seat = s }) (c.turn.ensures.over is)

pub returns-in-None-clause-moved : goal.returns-in-None-clause-moved
returns-in-None-clause-moved g c = λ is.
    stepped (c.turn.ensures.moved is) (subst (λ o. IfSome o (λ h. length (journal_in c.turn.new.self) ≡ h.told)) (sym c.in-None.is) tt)

pub returns-in-Some-clause-actor : goal.returns-in-Some-clause-actor
returns-in-Some-clause-actor g c = c.turn_queue.ensures.actor

pub returns-in-Some-clause-grows : goal.returns-in-Some-clause-grows
returns-in-Some-clause-grows g c = c.turn_queue.ensures.grows

pub returns-in-None-clause-actor : goal.returns-in-None-clause-actor
returns-in-None-clause-actor g c = c.turn.ensures.actor

pub returns-in-None-clause-grows : goal.returns-in-None-clause-grows
returns-in-None-clause-grows g c = c.turn.ensures.grows

pub returns-in-Some-clause-few : goal.returns-in-Some-clause-few
returns-in-Some-clause-few g c = c.turn_queue.ensures.few

pub returns-in-None-clause-few : goal.returns-in-None-clause-few
returns-in-None-clause-few g c = c.turn.ensures.few
