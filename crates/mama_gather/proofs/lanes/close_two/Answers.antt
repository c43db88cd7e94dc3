use Rattle.mama_gather.specs.Edge.{IsEdgeOf}
use Rattle.mama_gather.proofs.LaneEnds.{both_in}
use Rattle.mama_gather.proofs.lanes.close_two.Goals as goal

pub returns-clause-one : goal.returns-clause-one
returns-clause-one g c =
    (both_in (IsEdgeOf g.E.Stream.last c.args.taker) c.new-ports.result.items c.push.new.self.items c.push-2.new.self.items c.args.one c.args.other c.new-ports.ensures.items c.in_ok-push.ensures.items c.in_ok-push-2.ensures.items c.close_lane.ensures).0

pub returns-clause-other : goal.returns-clause-other
returns-clause-other g c =
    (both_in (IsEdgeOf g.E.Stream.last c.args.taker) c.new-ports.result.items c.push.new.self.items c.push-2.new.self.items c.args.one c.args.other c.new-ports.ensures.items c.in_ok-push.ensures.items c.in_ok-push-2.ensures.items c.close_lane.ensures).1
