use Rattle.std.proofs.Common.{◌≡◌, length, map}
use Rattle.std.specs.List.{All}
use Rattle.mama_lane.specs.Values.{new_port, new_taker}
use Rattle.mama_hall.specs.Ends.{IsLaneOf}
use Rattle.mama_hall.proofs.publishers.PublisherLanes.open.Given as goal

abbrev pub invariant-loop : goal.invariant-loop
invariant-loop g l = record {
  lanes : All (IsLaneOf l.bounds 1) l.opened.lanes.items;
  bridge : l.opened.bridge.items ≡ map (λ lane. new_port lane 0) l.opened.lanes.items;
  takers : l.opened.takers.items ≡ map new_taker l.opened.lanes.items;
  number : length l.opened.lanes.items ≡ l.counter;
}
