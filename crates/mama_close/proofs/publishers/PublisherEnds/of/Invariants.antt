use Rattle.std.proofs.Common.{◌≡◌, map}
use Rattle.mama_record.specs.RunView.{entries_of}
use Rattle.mama_close.specs.Kinds.{entries_by}
use Rattle.mama_close.proofs.publishers.PublisherEnds.of.Given as goal

abbrev pub invariant-loop-seat : goal.invariant-loop-seat
invariant-loop-seat g l = record {
  takers : l.ends.takers.items ≡ map (λ s. s.1.inlet.taker) l.yielded;
  to_bridge : l.ends.to_bridge.items ≡ map (λ s. s.1.port) l.yielded;
  journals : entries_of l.ends.journals.items ≡ map entries_by l.yielded;
}
