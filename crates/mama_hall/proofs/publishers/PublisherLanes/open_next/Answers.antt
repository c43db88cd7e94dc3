use Rattle.mama_hall.proofs.PortLemmas.{lanes_more}
use Rattle.mama_hall.proofs.publishers.PublisherLanes.open_next.Goals as goal

pub returns-clause-lanes : goal.returns-clause-lanes
returns-clause-lanes g c = lanes_more c.args.bounds 1 c.args.self.now.lanes.items c.push.new.self.items c.in_ok-lane.lane c.in_ok-push.ensures.items c.requires.lanes c.in_ok-lane.ensures.lane
