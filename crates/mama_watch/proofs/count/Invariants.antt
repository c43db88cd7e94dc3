use Rattle.std.proofs.Common.{◌≡◌}
use Rattle.mama_watch.proofs.count.Given as goal

abbrev pub invariant-loop-number : goal.invariant-loop-number
invariant-loop-number g l = l.reader.queue ≡ l.fn.reader.queue
