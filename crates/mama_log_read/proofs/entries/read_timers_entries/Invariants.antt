use Rattle.std.proofs.Common.{length}
use Rattle.mama_log_line.specs.Entering.{MayEnterTimers}
use Rattle.mama_record.specs.LogText.{timers_entry_text}
use Rattle.mama_log_read.proofs.Taking.{SoFar}
use Rattle.mama_log_read.proofs.entries.read_timers_entries.Given as goal

abbrev pub invariant-loop-words : goal.invariant-loop-words
invariant-loop-words l = SoFar (MayEnterTimers l.names) (timers_entry_text l.names.shape) l.fn.text l.entries.items l.rest

abbrev pub decreases-loop-words : goal.decreases-loop-words
decreases-loop-words l = length l.rest
