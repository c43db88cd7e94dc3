use Rattle.std.proofs.Common.{◌≡◌, [], rules, arith}
use Rattle.std.proofs.lemmas.Grind.{common_steps}
use Rattle.mama_gather.proofs.LaneEnds.{one_less, none_left, last_same}
use Rattle.mama_gather.proofs.lanes.close_pairs.Goals as goal

pub close_two-requires : goal.close_two-requires
close_two-requires g c =
    let i = c.lanes.invariant in
    record {
      one = last_same (λ port. port.lane) (λ lane. lane.id) c.lanes.first.items c.pop-in-Some.new.self.items c.in-Some-pop.one c.lanes.lanes.items c.pop.new.self.items c.in-Some.lane c.in-Some-pop.ensures.items c.in-Some.ensures.items i.first;
      other = last_same (λ port. port.lane) (λ lane. lane.id) c.lanes.second.items c.pop-in-Some-2.new.self.items c.in-Some-pop-2.other c.lanes.lanes.items c.pop.new.self.items c.in-Some.lane c.in-Some-pop-2.ensures.items c.in-Some.ensures.items i.second;
      taker = last_same (λ taker. taker.lane) (λ lane. lane.id) c.lanes.takers.items c.pop-in-Some-3.new.self.items c.in-Some-pop-3.taker c.lanes.lanes.items c.pop.new.self.items c.in-Some.lane c.in-Some-pop-3.ensures.items c.in-Some.ensures.items i.takers;
    }

pub lanes-preserved : goal.lanes-preserved
lanes-preserved g c =
    let i = c.lanes.invariant in
    let first = one_less g.E.Stream.last c.args.first.items c.lanes.first.items c.pop-in-Some.new.self.items c.args.takers.items c.lanes.takers.items c.pop-in-Some-3.new.self.items
    c.lanes.lanes.items c.pop.new.self.items c.in-Some-pop.one c.in-Some-pop-3.taker c.in-Some.lane c.in-Some-pop.ensures.items c.in-Some-pop-3.ensures.items c.in-Some.ensures.items
    (record { ports_are = i.first; takers_are = i.takers; done = i.done_first }) c.in_ok-close_two.ensures.one in
    let second = one_less g.E.Stream.last c.args.second.items c.lanes.second.items c.pop-in-Some-2.new.self.items c.args.takers.items c.lanes.takers.items c.pop-in-Some-3.new.self.items
    c.lanes.lanes.items c.pop.new.self.items c.in-Some-pop-2.other c.in-Some-pop-3.taker c.in-Some.lane c.in-Some-pop-2.ensures.items c.in-Some-pop-3.ensures.items c.in-Some.ensures.items
    (record { ports_are = i.second; takers_are = i.takers; done = i.done_second }) c.in_ok-close_two.ensures.other in
    record { first = first.ports_are; second = second.ports_are; takers = first.takers_are; done_first = first.done; done_second = second.done }

pub returns-clause-second : goal.returns-clause-second
returns-clause-second g c =
    let i = c.lanes.invariant in
    let none : c.lanes.lanes.items ≡ [] = first_of (search rules, grind (arith, common_steps)) in
    none_left g.E.Stream.last c.args.second.items c.lanes.second.items c.args.takers.items c.lanes.takers.items c.lanes.lanes.items none (record { ports_are = i.second; takers_are = i.takers; done = i.done_second })
