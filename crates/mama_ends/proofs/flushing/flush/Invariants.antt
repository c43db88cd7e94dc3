use Rattle.std.proofs.Common.{◌≡◌, ◌++◌, map, length}
use Rattle.mama_seats.specs.Waiting.{waits}
use Rattle.mama_ends.proofs.flushing.flush.Given as goal

abbrev pub invariant-loop-event : goal.invariant-loop-event
invariant-loop-event g l = record {
  place : l.port ≡ record l.fn.port { put = l.port.put };
  puts : l.port.put ++ map g.E.Stream.noted (waits l.left) ≡ l.fn.port.put ++ map g.E.Stream.noted (waits l.fn.left);
}

abbrev pub decreases-loop-event : goal.decreases-loop-event
decreases-loop-event g l = length (waits l.left)
