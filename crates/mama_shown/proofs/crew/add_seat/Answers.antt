use Rattle.std.proofs.lemmas.Result.{on_ok_weaker}
use Rattle.mama_shown.proofs.NewSeats.{shown_added, where_shown}
use Rattle.mama_shown.proofs.crew.add_seat.Goals as goal

pub returns-clause-seats : goal.returns-clause-seats
returns-clause-seats g c =
    on_ok_weaker c.add_shown.result
    (λ added. shown_added c.args._script.now c.args._hall.now c.args.seat c.showing_for-showing.result c.args.shown.now.items c.add_shown.new.shown.items c.requires.sits c.requires.new c.showing_for-showing.ensures.showing added)
    c.add_shown.ensures

pub returns-clause-readers : goal.returns-clause-readers
returns-clause-readers g c =
    on_ok_weaker c.add_shown.result (λ added. where_shown c.args.seat c.showing_for-showing.result c.args.shown.now.items c.add_shown.new.shown.items c.showing_for-showing.ensures.readers added) c.add_shown.ensures
