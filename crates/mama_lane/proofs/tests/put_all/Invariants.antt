use Rattle.std.proofs.Common.{◌≡◌, ◌++◌, map}
use Rattle.std.specs.Vec.Iter.{into_iter_items}
use Rattle.mama_lane.proofs.tests.put_all.Given as goal

abbrev pub invariant-loop-event : goal.invariant-loop-event
invariant-loop-event g l = record {
  lane : l.port.lane ≡ l.initial.port.lane;
  bounds : l.port.bounds ≡ l.initial.port.bounds;
  number : l.port.number ≡ l.initial.port.number;
  put : l.port.put ++ map g.E.Stream.noted (into_iter_items l.event-iterator) ≡ l.initial.port.put ++ map g.E.Stream.noted (into_iter_items l.initial.event-iterator);
}
