use Rattle.std.proofs.Common.{length}
use Rattle.mama_record.specs.LogText.{publisher_entry_text}
use Rattle.mama_log_line.specs.Entering.{MayEnterPublisher}
use Rattle.mama_log_read.proofs.Taking.{SoFar}
use Rattle.mama_log_read.proofs.entries.read_publisher_entries.Given as goal

abbrev pub invariant-entries : goal.invariant-entries
invariant-entries l = SoFar (MayEnterPublisher l.names) publisher_entry_text l.fn.text l.entries.items l.rest

abbrev pub decreases-entries : goal.decreases-entries
decreases-entries l = length l.rest
