use Rattle.mama_work.specs.Serving.{numbers_of}
use Rattle.mama_work.proofs.AllHands.{pool_placed, back_from}
use Rattle.mama_work.proofs.turning.turn_with.Goals as goal

pub finish-queues-requires-clause-pool : goal.finish-queues-requires-clause-pool
finish-queues-requires-clause-pool g c = pool_placed c.args.work.hands.items c.scoped-report.result.1.hands.items c.requires.pool c.scoped-report.ensures.1.1.1.1.0

pub returns-clause-ended : goal.returns-clause-ended
returns-clause-ended g c = λ holds.
    let all = c.hold_both-ended.ensures holds in let both = c.hold_both.ensures all.0 in
    (c.scoped-report.ensures.1.1.0 both.0, c.finish-queues.ensures.ended both.1)

pub returns-clause-each : goal.returns-clause-each
returns-clause-each g c = λ holds.
    let numbers = numbers_of g.S.Seat.acts in
    let all = c.hold_both-ended.ensures holds in let both = c.hold_both.ensures all.0 in
    let back = c.scoped-report.result.1 in
    back_from c.args.work.hands.items back.hands.items (numbers back.kept.items) (numbers c.finish-queues.result.seats.items) (c.scoped-report.ensures.1.1.1.1.1 all.1) (c.finish-queues.ensures.all both.1)
