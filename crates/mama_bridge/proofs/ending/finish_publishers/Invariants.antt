use Rattle.std.proofs.Common.{◌≡◌, ◌+◌, ◌≤◌, ◌++◌, map}
use Rattle.mama_journal.specs.Journal.{numbers_below}
use Rattle.mama_event.specs.declared.to_publisher.ToPublisher.TheVariants as asked
use Rattle.mama_bridge.specs.declared.out.BridgeOut.TheVariants as out
use Rattle.mama_bridge.proofs.ending.finish_publishers.Given as goal

abbrev pub invariant-loop-number : goal.invariant-loop-number
invariant-loop-number g l = record {
  out : l.out.items ≡ l.initial.out.items ++ map (λ n. out.Publisher n asked.Fin) (numbers_below l.number);
  room : l.publishers ≤ l.out.spare + l.number;
  spare : l.initial.out.spare ≤ l.out.spare + l.number;
}
