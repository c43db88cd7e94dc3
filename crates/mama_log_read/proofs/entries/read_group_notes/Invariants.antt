use Rattle.std.proofs.Common.{length}
use Rattle.mama_log_line.specs.Entering.{MayHearGroup}
use Rattle.mama_record.specs.LogText.{group_note_text}
use Rattle.mama_log_read.proofs.Taking.{SoFar}
use Rattle.mama_log_read.proofs.entries.read_group_notes.Given as goal

abbrev pub invariant-loop-words : goal.invariant-loop-words
invariant-loop-words l = SoFar (MayHearGroup l.names) group_note_text l.fn.text l.entries.items l.rest

abbrev pub decreases-loop-words : goal.decreases-loop-words
decreases-loop-words l = length l.rest
