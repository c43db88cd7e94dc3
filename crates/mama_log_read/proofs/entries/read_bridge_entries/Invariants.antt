use Rattle.std.proofs.Common.{length}
use Rattle.mama_log_line.specs.Entering.{MayEnterBridge}
use Rattle.mama_record.specs.LogText.{bridge_entry_text}
use Rattle.mama_log_read.proofs.Taking.{SoFar}
use Rattle.mama_log_read.proofs.entries.read_bridge_entries.Given as goal

abbrev pub invariant-loop-words : goal.invariant-loop-words
invariant-loop-words l = SoFar (MayEnterBridge l.names) (bridge_entry_text l.names.shape) l.fn.text l.entries.items l.rest

abbrev pub decreases-loop-words : goal.decreases-loop-words
decreases-loop-words l = length l.rest
