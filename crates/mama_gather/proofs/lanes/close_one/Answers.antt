use Rattle.mama_gather.specs.Edge.{IsEdgeOf}
use Rattle.mama_gather.proofs.LaneEnds.{alone_in}
use Rattle.mama_gather.proofs.lanes.close_one.Goals as goal

pub returns : goal.returns
returns g c = alone_in (IsEdgeOf g.E.Stream.last c.args.taker) c.new-ports.result.items c.push.new.self.items c.args.port c.new-ports.ensures.items c.in_ok-push.ensures.items c.close_lane.ensures
