use Rattle.std.proofs.Common.{◌≡◌, [], ◌∷◌, map, rules, arith, ◌∙◌, ap}
use Rattle.std.specs.List.{flat_map}
use Rattle.std.proofs.lemmas.List.{nil_from_length}
use Rattle.std.proofs.lemmas.List.Elements.{All-nil, All-same}
use Rattle.std.proofs.lemmas.Result.{IfOk-from_err}
use Rattle.mama_board.specs.Values.{new_reader}
use Rattle.mama_gather.proofs.Lists.{whole_more, whole_all}
use Rattle.mama_gather.proofs.Parting.{seat_here}
use Rattle.mama_grouped.specs.Crew as begun
use Rattle.mama_grouped.specs.Seat as grouped
use Rattle.mama_shown.specs.Seat.{actor_of, queue_in}
use Rattle.mama_shown.specs.New.{IsNewSeatOf}
use Rattle.mama_shown.proofs.NewSeats.{actors_more, seats_more}
use Rattle.mama_shown.proofs.Queues.{readers_more}
use Rattle.mama_shown.proofs.crew.with_boards.Goals as goal

pub loop-seat-init : goal.loop-seat-init
loop-seat-init g c = record {
  whole = search (c.into_iter-seat-iterator, rules);
  actors = ap (map actor_of) c.new-shown.ensures.items;
  seats = All-same (IsNewSeatOf c.args.script.now c.args.hall.now) c.new-shown.result.items _ c.new-shown.ensures.items (All-nil (IsNewSeatOf c.args.script.now c.args.hall.now));
  readers = c.new-readers.ensures.items;
}

pub add_seat-requires : goal.add_seat-requires
add_seat-requires g c =
    let rest = c.next.new.self.rest.items in
    let first : c.loop-seat.seat-iterator.rest.items ≡ c.in-Some.seat ∷ rest = search rules in
    let whole = whole_more c.loop-seat.yielded c.in-Some.seat c.loop-seat.seat-iterator.rest.items rest c.args.seats.items first c.loop-seat.invariant.whole in
    record {
      sits = seat_here (grouped.IsSeatOf c.args.script.now c.args.hall.now) c.args.seats.items c.loop-seat.yielded rest c.in-Some.seat whole c.requires.sits;
      new = seat_here begun.HasDoneNothing c.args.seats.items c.loop-seat.yielded rest c.in-Some.seat whole c.requires.new;
    }

pub loop-seat-preserved : goal.loop-seat-preserved
loop-seat-preserved g c =
    let i = c.loop-seat.invariant in
    let rest = c.next.new.self.rest.items in
    let first : c.loop-seat.seat-iterator.rest.items ≡ c.in-Some.seat ∷ rest = search rules in
    let adds = c.in_ok-add_seat.ensures.seats in
    record {
      whole = whole_more c.loop-seat.yielded c.in-Some.seat c.loop-seat.seat-iterator.rest.items rest c.args.seats.items first i.whole;
      actors = actors_more c.args.script.now c.args.hall.now c.loop-seat.yielded c.in-Some.seat c.loop-seat.shown.items c.add_seat.new.shown.items adds i.actors;
      seats = seats_more c.args.script.now c.args.hall.now c.in-Some.seat c.loop-seat.shown.items c.add_seat.new.shown.items adds i.seats;
      readers = readers_more grouped.actor_of c.loop-seat.yielded c.in-Some.seat c.loop-seat.readers.items c.add_seat.new.readers.items c.in_ok-add_seat.ensures.readers i.readers;
    }

pub returns-in_err-add_seat-clause-actors : goal.returns-in_err-add_seat-clause-actors
returns-in_err-add_seat-clause-actors g c = IfOk-from_err c.from_residual.result _ c.from_residual.ensures.0

pub returns-in_err-add_seat-clause-seats : goal.returns-in_err-add_seat-clause-seats
returns-in_err-add_seat-clause-seats g c = IfOk-from_err c.from_residual.result _ c.from_residual.ensures.0

pub returns-in_err-add_seat-clause-readers : goal.returns-in_err-add_seat-clause-readers
returns-in_err-add_seat-clause-readers g c = IfOk-from_err c.from_residual.result _ c.from_residual.ensures.0

pub returns-clause-actors : goal.returns-clause-actors
returns-clause-actors g c =
    let none : c.loop-seat.seat-iterator.rest.items ≡ [] = nil_from_length c.loop-seat.seat-iterator.rest.items (omega (arith, c.in-None.ensures.steps.0, c.loop-seat.seat-iterator.rest.ok.0)) in
    c.loop-seat.invariant.actors ∙ ap (map grouped.actor_of) (whole_all c.loop-seat.yielded c.loop-seat.seat-iterator.rest.items c.args.seats.items none c.loop-seat.invariant.whole)

pub returns-clause-seats : goal.returns-clause-seats
returns-clause-seats g c = c.loop-seat.invariant.seats

pub returns-clause-readers : goal.returns-clause-readers
returns-clause-readers g c =
    let none : c.loop-seat.seat-iterator.rest.items ≡ [] = nil_from_length c.loop-seat.seat-iterator.rest.items (omega (arith, c.in-None.ensures.steps.0, c.loop-seat.seat-iterator.rest.ok.0)) in
    c.loop-seat.invariant.readers
    ∙ ap (λ seats. map new_reader (flat_map (λ s. queue_in (grouped.actor_of s)) seats)) (whole_all c.loop-seat.yielded c.loop-seat.seat-iterator.rest.items c.args.seats.items none c.loop-seat.invariant.whole)
