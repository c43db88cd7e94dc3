use Rattle.std.proofs.Common.{◌≡◌}
use Rattle.mama_lane.specs.Rule.{notes_of}
use Rattle.mama_lane.proofs.tests.take_all.Given as goal

abbrev pub invariant-loop : goal.invariant-loop
invariant-loop g l = record {
  lane : l.taker.lane ≡ l.initial.taker.lane;
  taken : l.taker.taken ≡ notes_of g.E.Stream.noted l.taken.items;
}
