use Rattle.std.specs.Vec.Iter.{into_iter_items}
use Rattle.std.proofs.Common.{◌≡◌, [], ◌∷◌, map, rules, arith}
use Rattle.std.proofs.lemmas.List.{nil_from_length}
use Rattle.std.proofs.lemmas.Result.{IfOk-from_err}
use Rattle.mama_gather.proofs.Lists.{whole_more}
use Rattle.mama_gather.proofs.Parting.{seat_here}
use Rattle.mama_crew.specs.New as begun
use Rattle.mama_crew.specs.Seat as crew
use Rattle.mama_grouped.proofs.NewSeats.{none_grouped, rows_next, grouped_more, all_actors}
use Rattle.mama_grouped.proofs.crew.with_groups.Goals as goal

pub loop-seat-init : goal.loop-seat-init
loop-seat-init g c =
    let rest = c.into_iter-seat-iterator.result.rest.items in
    let same : rest ≡ c.args.seats.items = search (c.into_iter-seat-iterator, rules) in
    let lists = map (λ list. list.items) (into_iter_items c.args.lists.now) in
    record {
      whole = same;
      grouped = none_grouped c.args.script.now c.args._hall.now c.args.seats.items rest lists c.new-grouped.result.items same c.new-grouped.ensures.items c.requires.groups;
    }

pub add_seat-requires : goal.add_seat-requires
add_seat-requires g c =
    let i = c.loop-seat.invariant in
    let left = c.loop-seat.seat-iterator.rest.items in
    let rest = c.next.new.self.rest.items in
    let first : left ≡ c.in-Some.seat ∷ rest = search rules in
    let whole = whole_more c.loop-seat.yielded c.in-Some.seat left rest c.args.seats.items first i.whole in
    record {
      sits = seat_here (crew.IsSeatOf c.args.script.now c.args._hall.now) c.args.seats.items c.loop-seat.yielded rest c.in-Some.seat whole c.requires.sits;
      new = seat_here begun.HasDoneNothing c.args.seats.items c.loop-seat.yielded rest c.in-Some.seat whole c.requires.new;
      rows = rows_next c.args.script.now c.args._hall.now c.loop-seat.yielded left rest c.in-Some.seat _ c.loop-seat.grouped.items first i.grouped;
    }

pub loop-seat-preserved : goal.loop-seat-preserved
loop-seat-preserved g c =
    let i = c.loop-seat.invariant in
    let left = c.loop-seat.seat-iterator.rest.items in
    let rest = c.next.new.self.rest.items in
    let first : left ≡ c.in-Some.seat ∷ rest = search rules in
    record {
      whole = whole_more c.loop-seat.yielded c.in-Some.seat left rest c.args.seats.items first i.whole;
      grouped =
          grouped_more c.args.script.now c.args._hall.now c.loop-seat.yielded left rest c.in-Some.seat _ _ c.loop-seat.grouped.items c.add_seat.new.grouped.items first c.in_ok-add_seat.ensures.rows c.in_ok-add_seat.ensures.seats i.grouped;
    }

pub returns-in_err-add_seat-clause-actors : goal.returns-in_err-add_seat-clause-actors
returns-in_err-add_seat-clause-actors g c = IfOk-from_err c.from_residual.result _ c.from_residual.ensures.0

pub returns-in_err-add_seat-clause-seats : goal.returns-in_err-add_seat-clause-seats
returns-in_err-add_seat-clause-seats g c = IfOk-from_err c.from_residual.result _ c.from_residual.ensures.0

pub returns-clause-actors : goal.returns-clause-actors
returns-clause-actors g c =
    let left = c.loop-seat.seat-iterator.rest.items in
    let none : left ≡ [] = nil_from_length left (omega (arith, c.in-None.ensures.steps.0, c.loop-seat.seat-iterator.rest.ok.0)) in
    all_actors c.args.script.now c.args._hall.now c.args.seats.items c.loop-seat.yielded left _ c.loop-seat.grouped.items c.loop-seat.invariant.whole none c.loop-seat.invariant.grouped

pub returns-clause-seats : goal.returns-clause-seats
returns-clause-seats g c = c.loop-seat.invariant.grouped.seats
