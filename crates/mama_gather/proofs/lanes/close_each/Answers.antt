use Rattle.mama_gather.proofs.LaneEnds.{one_less}
use Rattle.mama_gather.proofs.lanes.close_each.Goals as goal

pub lanes-preserved : goal.lanes-preserved
lanes-preserved g c =
    let i = c.lanes.invariant in
    let left = one_less g.E.Stream.last c.args.ports.items c.lanes.ports.items c.pop-in-Some.new.self.items c.args.takers.items c.lanes.takers.items c.pop-in-Some-2.new.self.items
    c.lanes.lanes.items c.pop.new.self.items c.in-Some-pop.port c.in-Some-pop-2.taker c.in-Some.lane c.in-Some-pop.ensures.items c.in-Some-pop-2.ensures.items c.in-Some.ensures.items
    (record { ports_are = i.ports; takers_are = i.takers; done = i.done }) c.in_ok-close_one.ensures in
    record { ports = left.ports_are; takers = left.takers_are; done = left.done }
