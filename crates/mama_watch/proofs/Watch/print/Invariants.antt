use Rattle.std.proofs.Common.{◌≡◌}
use Rattle.mama_watch.proofs.Watch.print.Given as goal

abbrev pub invariant-loop-least_ok : goal.invariant-loop-least_ok
invariant-loop-least_ok g l = l.reader.queue ≡ l.fn.reader.queue

abbrev pub invariant-loop : goal.invariant-loop
invariant-loop g l = l.reader.queue ≡ l.fn.reader.queue
