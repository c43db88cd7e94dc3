use Rattle.std.proofs.Common.{◌≡◌, length, map}
use Rattle.std.specs.List.{AllZip}
use Rattle.mama_posts_services.specs.Ports.{lanes_of, ids_of}
use Rattle.mama_gather.specs.Edge.{IsEdgeOf}
use Rattle.mama_gather.proofs.lanes.close_pairs.Given as goal

abbrev pub invariant-lanes : goal.invariant-lanes
invariant-lanes g l = record {
  first : lanes_of l.first.items ≡ ids_of l.lanes.items;
  second : lanes_of l.second.items ≡ ids_of l.lanes.items;
  takers : map (λ taker. taker.lane) l.takers.items ≡ ids_of l.lanes.items;
  done_first : AllZip (λ port taker. IsEdgeOf g.E.Stream.last taker port) l.first.items l.takers.items → AllZip (λ port taker. IsEdgeOf g.E.Stream.last taker port) l.fn.first.items l.fn.takers.items;
  done_second : AllZip (λ port taker. IsEdgeOf g.E.Stream.last taker port) l.second.items l.takers.items → AllZip (λ port taker. IsEdgeOf g.E.Stream.last taker port) l.fn.second.items l.fn.takers.items;
}

abbrev pub decreases-lanes : goal.decreases-lanes
decreases-lanes g l = length l.lanes.items
