use Rattle.std.specs.List.{All}
use Rattle.std.proofs.Common.{subst}
use Rattle.mama_event.specs.ToTimers.{is_last}
use Rattle.mama_gather.specs.Edge.{IsEdgeOf}
use Rattle.mama_close.specs.Apart.{IsOn}
use Rattle.mama_gather.proofs.LaneEnds.{alone_is, alone_holds}
use Rattle.mama_close.proofs.apart.close_lanes.Goals as goal

pub close_service-requires : goal.close_service-requires
close_service-requires g c = record { first = c.requires.clients_bridge; second = c.requires.publishers_bridge; third = c.requires.queues_bridge; taker = c.requires.bridge_taker }

pub close_service-requires-2 : goal.close_service-requires-2
close_service-requires-2 g c = record {
  first = c.requires.clients_timers;
  second = c.requires.queues_timers;
  third = alone_holds (IsOn c.args.to_timers) c.new-alone.result.items c.push.new.self.items c.args.apart.bridge.timers c.new-alone.ensures.items c.in_ok-push.ensures.items c.requires.bridge_timers;
  taker = c.requires.timers_taker;
}

pub close_each-requires : goal.close_each-requires
close_each-requires g c = record { ports = c.requires.bridge_publishers; takers = c.requires.publishers_takers }

pub close_pairs-requires : goal.close_pairs-requires
close_pairs-requires g c = record { first = c.requires.bridge_queues; second = c.requires.timers_queues; takers = c.requires.queues_takers }

pub returns-clause-edges : goal.returns-clause-edges
returns-clause-edges g c = record {
  clients_bridge = c.in_ok-close_service.ensures.first;
  publishers_bridge = c.in_ok-close_service.ensures.second;
  queues_bridge = c.in_ok-close_service.ensures.third;
  clients_timers = c.in_ok-close_service-2.ensures.first;
  queues_timers = c.in_ok-close_service-2.ensures.second;
  bridge_timers = subst (All (IsEdgeOf is_last c.args.apart.timers.taker)) (alone_is c.new-alone.result.items c.push.new.self.items c.args.apart.bridge.timers c.new-alone.ensures.items c.in_ok-push.ensures.items) c.in_ok-close_service-2.ensures.third;
  publishers = c.in_ok-close_each.ensures;
  bridge_queues = c.in_ok-close_pairs.ensures.first;
  timers_queues = c.in_ok-close_pairs.ensures.second;
}
