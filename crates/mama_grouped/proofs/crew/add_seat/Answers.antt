use Rattle.std.proofs.lemmas.Result.{on_ok_weaker}
use Rattle.mama_grouped.proofs.NewSeats.{heard_added, where_heard}
use Rattle.mama_grouped.proofs.crew.add_seat.Goals as goal

pub next_hearing-hearing-requires-clause-new : goal.next_hearing-hearing-requires-clause-new
next_hearing-hearing-requires-clause-new g c = c.requires.new

pub next_hearing-hearing-requires-clause-rows : goal.next_hearing-hearing-requires-clause-rows
next_hearing-hearing-requires-clause-rows g c = c.requires.rows

pub returns-clause-rows : goal.returns-clause-rows
returns-clause-rows g c =
    on_ok_weaker c.add_heard.result (λ added. where_heard c.args.seat c.next_hearing-hearing.result c.args.grouped.now.items c.add_heard.new.grouped.items c.next_hearing-hearing.ensures.rows added) c.add_heard.ensures

pub returns-clause-seats : goal.returns-clause-seats
returns-clause-seats g c =
    on_ok_weaker c.add_heard.result
    (λ added. heard_added c.args.script.now c.args._hall.now c.args.seat c.next_hearing-hearing.result c.args.grouped.now.items c.add_heard.new.grouped.items c.requires.sits c.requires.new
    c.next_hearing-hearing.ensures.hears c.next_hearing-hearing.ensures.told added)
    c.add_heard.ensures
