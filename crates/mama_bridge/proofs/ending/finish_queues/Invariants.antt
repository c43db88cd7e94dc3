use Rattle.std.proofs.Common.{◌≡◌, ◌+◌, ◌≤◌, ◌++◌, map}
use Rattle.mama_journal.specs.Journal.{numbers_below}
use Rattle.mama_event.specs.declared.to_queue.ToQueue.TheVariants as queued
use Rattle.mama_bridge.specs.declared.out.BridgeOut.TheVariants as out
use Rattle.mama_bridge.proofs.ending.finish_queues.Given as goal

abbrev pub invariant-loop-number : goal.invariant-loop-number
invariant-loop-number g l = record {
  out : l.out.items ≡ l.initial.out.items ++ map (λ n. out.Queue n queued.Fin) (numbers_below l.number);
  room : l.queues ≤ l.out.spare + l.number;
  spare : l.initial.out.spare ≤ l.out.spare + l.number;
}
