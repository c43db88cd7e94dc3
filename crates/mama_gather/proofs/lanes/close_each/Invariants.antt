use Rattle.std.proofs.Common.{◌≡◌, length, map}
use Rattle.std.specs.List.{AllZip}
use Rattle.mama_posts_services.specs.Ports.{lanes_of, ids_of}
use Rattle.mama_gather.specs.Edge.{IsEdgeOf}
use Rattle.mama_gather.proofs.lanes.close_each.Given as goal

abbrev pub invariant-lanes : goal.invariant-lanes
invariant-lanes g l = record {
  ports : lanes_of l.ports.items ≡ ids_of l.lanes.items;
  takers : map (λ taker. taker.lane) l.takers.items ≡ ids_of l.lanes.items;
  done : AllZip (λ port taker. IsEdgeOf g.E.Stream.last taker port) l.ports.items l.takers.items → AllZip (λ port taker. IsEdgeOf g.E.Stream.last taker port) l.fn.ports.items l.fn.takers.items;
}

abbrev pub decreases-lanes : goal.decreases-lanes
decreases-lanes g l = length l.lanes.items
