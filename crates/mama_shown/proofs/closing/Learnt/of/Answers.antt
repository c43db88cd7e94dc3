use Rattle.std.proofs.Common.{◌≡◌, [], ◌∷◌, map, rules, arith, ◌∙◌, ap}
use Rattle.std.proofs.lemmas.List.{nil_from_length}
use Rattle.std.proofs.lemmas.List.Elements.{All-nil, All-same}
use Rattle.std.proofs.lemmas.Result.{IfOk-from_err}
use Rattle.mama_gather.proofs.Lists.{mapped_more, whole_more, whole_all}
use Rattle.mama_gather.proofs.Parting.{seat_here}
use Rattle.mama_shown.specs.Last.{HasLast, ReadsLast}
use Rattle.mama_shown.proofs.closing.Learnt.of.Goals as goal

pub loop-seat-init : goal.loop-seat-init
loop-seat-init g c = record {
  whole = search (c.into_iter-seat-iterator, rules);
  seats = c.new-alone.ensures.items;
  readers = λ objects journals all. All-same (ReadsLast objects journals) c.new-readers.result.items [] c.new-readers.ensures.items (All-nil (ReadsLast objects journals));
}

pub loop-seat-preserved : goal.loop-seat-preserved
loop-seat-preserved g c =
    let i = c.loop-seat.invariant in
    let first : c.loop-seat.seat-iterator.rest.items ≡ c.in-Some.seat ∷ c.next.new.self.rest.items = search rules in
    let whole = whole_more c.loop-seat.yielded c.in-Some.seat c.loop-seat.seat-iterator.rest.items c.next.new.self.rest.items c.args.seats.items first i.whole in
    record {
      whole = whole;
      seats = mapped_more (λ s. s.seat) c.loop-seat.yielded c.in-Some.seat c.loop-seat.learnt.seats.items c.add.new.self.seats.items c.in_ok-add.ensures.seats i.seats;
      readers = λ objects journals all.
          c.in_ok-add.ensures.readers objects journals (seat_here (λ s. HasLast objects journals s) c.args.seats.items c.loop-seat.yielded c.next.new.self.rest.items c.in-Some.seat whole all) (i.readers objects journals all);
    }

pub returns-clause-seats : goal.returns-clause-seats
returns-clause-seats g c =
    let none : c.loop-seat.seat-iterator.rest.items ≡ [] = nil_from_length c.loop-seat.seat-iterator.rest.items (omega (arith, c.in-None.ensures.steps.0, c.loop-seat.seat-iterator.rest.ok.0)) in
    c.loop-seat.invariant.seats ∙ ap (map (λ s. s.seat)) (whole_all c.loop-seat.yielded c.loop-seat.seat-iterator.rest.items c.args.seats.items none c.loop-seat.invariant.whole)

pub returns-clause-readers : goal.returns-clause-readers
returns-clause-readers g c = c.loop-seat.invariant.readers

pub returns-in_err-add-clause-seats : goal.returns-in_err-add-clause-seats
returns-in_err-add-clause-seats g c = IfOk-from_err c.from_residual.result _ c.from_residual.ensures.0

pub returns-in_err-add-clause-readers : goal.returns-in_err-add-clause-readers
returns-in_err-add-clause-readers g c = IfOk-from_err c.from_residual.result _ c.from_residual.ensures.0
