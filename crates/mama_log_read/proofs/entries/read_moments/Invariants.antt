use Rattle.std.proofs.Common.{length}
use Rattle.mama_record.specs.LogText.{clock_text}
use Rattle.mama_log_read.specs.Logged.{IsMoment}
use Rattle.mama_log_read.proofs.Taking.{SoFar}
use Rattle.mama_log_read.proofs.entries.read_moments.Given as goal

abbrev pub invariant-loop-words : goal.invariant-loop-words
invariant-loop-words l = SoFar IsMoment clock_text l.fn.text l.entries.items l.rest

abbrev pub decreases-loop-words : goal.decreases-loop-words
decreases-loop-words l = length l.rest
