use Rattle.std.proofs.Common.{length}
use Rattle.mama_log_line.specs.Entering.{MayNote}
use Rattle.mama_record.specs.LogText.{watch_note_text}
use Rattle.mama_log_read.proofs.Taking.{SoFar}
use Rattle.mama_log_read.proofs.entries.read_watch_notes.Given as goal

abbrev pub invariant-loop-words : goal.invariant-loop-words
invariant-loop-words l = SoFar MayNote watch_note_text l.fn.text l.entries.items l.rest

abbrev pub decreases-loop-words : goal.decreases-loop-words
decreases-loop-words l = length l.rest
