use Rattle.std.proofs.Common.{length}
use Rattle.mama_log_read.proofs.Taking.{CallsSoFar}
use Rattle.mama_log_read.proofs.calls.read_calls.Given as goal

abbrev pub invariant-loop-words : goal.invariant-loop-words
invariant-loop-words l = CallsSoFar l.names l.object l.fn.text l.calls.items l.rest

abbrev pub decreases-loop-words : goal.decreases-loop-words
decreases-loop-words l = length l.rest
