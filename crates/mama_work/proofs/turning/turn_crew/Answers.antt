use Rattle.std.proofs.Common.{arith}
use Rattle.mama_work.specs.Serving.{numbers_of}
use Rattle.mama_work.proofs.AllHands.{pool_placed, dealt_count, each_as_given}
use Rattle.mama_work.proofs.turning.turn_crew.Goals as goal

pub turn_under-requires-clause-pool : goal.turn_under-requires-clause-pool
turn_under-requires-clause-pool g c = λ κs lives. pool_placed c.in_ok-new.new.items c.in_ok-hands.hands.items c.in_ok-new.ensures.pool c.in_ok-hands.ensures.1

pub turn_under-requires-clause-room : goal.turn_under-requires-clause-room
turn_under-requires-clause-room g c = λ κs lives.
    let count = dealt_count c.args.workers c.in_ok-new.new.items c.in_ok-hands.hands.items c.in_ok-new.ensures.new c.in_ok-hands.ensures.1 in
    (c.in_ok-room.ensures.items, omega (arith, count, c.in_ok-hands.hands.ok.0, c.in_ok-room.ensures.capacity))

pub returns-clause-each : goal.returns-clause-each
returns-clause-each g c = λ holds.
    let numbers = numbers_of g.S.Seat.acts in
    each_as_given c.args.workers c.in_ok-new.new.items c.in_ok-hands.hands.items (numbers c.args.queues.items) (numbers c.turn_under.result.queues.items) c.in_ok-new.ensures.new c.in_ok-hands.ensures.0 (c.turn_under.ensures.each holds)
