use Rattle.std.proofs.Common.{length}
use Rattle.mama_log_line.specs.Entering.{MayEnterQueue}
use Rattle.mama_record.specs.LogText.{queue_entry_text}
use Rattle.mama_log_read.proofs.Taking.{SoFar}
use Rattle.mama_log_read.proofs.entries.read_queue_entries.Given as goal

abbrev pub invariant-loop-words : goal.invariant-loop-words
invariant-loop-words l = SoFar (MayEnterQueue l.names) queue_entry_text l.fn.text l.entries.items l.rest

abbrev pub decreases-loop-words : goal.decreases-loop-words
decreases-loop-words l = length l.rest
