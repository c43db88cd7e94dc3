use Rattle.std.proofs.Common.{◌≡◌}
use Rattle.mama_gather.specs.Edge.{IsEdgeOf}
use Rattle.mama_gather.proofs.LaneEnds.{three_in, three_hold}
use Rattle.mama_gather.proofs.lanes.close_service.Goals as goal

pub close_lane-requires-clause-ports : goal.close_lane-requires-clause-ports
close_lane-requires-clause-ports g c =
    three_hold (λ port. port.lane ≡ c.args.lane.id) c.args.first.items c.args.second.items c.args.third.items c.append.new.self.items c.append-2.new.self.items c.in_ok-append.ensures.items c.in_ok-append-2.ensures.items
    c.requires.first c.requires.second c.requires.third

pub returns-clause-first : goal.returns-clause-first
returns-clause-first g c =
    (three_in (IsEdgeOf g.E.Stream.last c.args.taker) c.args.first.items c.args.second.items c.args.third.items c.append.new.self.items c.append-2.new.self.items c.in_ok-append.ensures.items c.in_ok-append-2.ensures.items c.close_lane.ensures).0

pub returns-clause-second : goal.returns-clause-second
returns-clause-second g c =
    (three_in (IsEdgeOf g.E.Stream.last c.args.taker) c.args.first.items c.args.second.items c.args.third.items c.append.new.self.items c.append-2.new.self.items c.in_ok-append.ensures.items c.in_ok-append-2.ensures.items c.close_lane.ensures).1

pub returns-clause-third : goal.returns-clause-third
returns-clause-third g c =
    (three_in (IsEdgeOf g.E.Stream.last c.args.taker) c.args.first.items c.args.second.items c.args.third.items c.append.new.self.items c.append-2.new.self.items c.in_ok-append.ensures.items c.in_ok-append-2.ensures.items c.close_lane.ensures).2
