use Rattle.mama_work.specs.Serving.{numbers_of}
use Rattle.mama_work.proofs.AllHands.{first_follows}
use Rattle.mama_work.proofs.hands.turn_own.Goals as goal

pub returns-clause-hands : goal.returns-clause-hands
returns-clause-hands g c =
    let numbers = numbers_of g.S.Seat.acts in
    let served = c.work_and_serve-report.result.1 in
    first_follows c.in-Some.hand served.hand c.args.serving.hands.items c.pop_front.new.self.items c.push_front_reserved.new.self.items (numbers c.args.serving.kept.items) (numbers served.kept.items)
    c.in-Some.ensures.items c.push_front_reserved.ensures.items c.work_and_serve-report.ensures.hand
