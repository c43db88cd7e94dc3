use Rattle.std.proofs.Common.{◌++◌, [], map}
use Rattle.mama_work.specs.Serving.{numbers_of}
use Rattle.mama_work.proofs.AllHands.{whole_way, placed_then, keep_then}
use Rattle.mama_work.proofs.turning.turn_all.Goals as goal

pub returns-clause-places : goal.returns-clause-places
returns-clause-places g c =
    let numbers = numbers_of g.S.Seat.acts in
    let s = c.start_serving-serving in let o = c.turn_own-own in let j = c.join_serving-back in
    let mid = map (λ s. s.promise.start.value) o.result.1.servers.items ++ o.result.1.hands.items in
    let way = whole_way s.result.servers.items o.result.1.servers.items (λ s. s.promise.start.value) c.args.work.hands.items s.result.hands.items o.result.1.hands.items (numbers s.result.kept.items) (numbers o.result.1.kept.items)
    o.ensures.servers s.ensures.hands o.ensures.hands in
    placed_then c.args.work.hands.items mid j.result.hands.items way.1 j.ensures.places

pub returns-clause-hands : goal.returns-clause-hands
returns-clause-hands g c = λ holds.
    let numbers = numbers_of g.S.Seat.acts in
    let s = c.start_serving-serving in let o = c.turn_own-own in let j = c.join_serving-back in
    let mid = map (λ s. s.promise.start.value) o.result.1.servers.items ++ o.result.1.hands.items in
    let way = whole_way s.result.servers.items o.result.1.servers.items (λ s. s.promise.start.value) c.args.work.hands.items s.result.hands.items o.result.1.hands.items (numbers s.result.kept.items) (numbers o.result.1.kept.items)
    o.ensures.servers s.ensures.hands o.ensures.hands in
    keep_then c.args.work.hands.items mid j.result.hands.items [] (numbers o.result.1.kept.items) (numbers j.result.kept.items) way.0 (j.ensures.hands holds)
