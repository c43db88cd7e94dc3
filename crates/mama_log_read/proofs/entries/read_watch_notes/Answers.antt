use Rattle.mama_log_line.specs.Entering.{MayNote}
use Rattle.mama_record.specs.LogText.{watch_note_text}
use Rattle.mama_log_read.proofs.Taking.{so_far_with_line}
use Rattle.mama_log_read.proofs.entries.read_watch_notes.Goals as goal

pub loop-words-preserved : goal.loop-words-preserved
loop-words-preserved c =
    so_far_with_line MayNote watch_note_text c.args.text.now c.loop-words.entries.items c.push.new.self.items c.in-Some.entry c.loop-words.rest.now c.in-Some.after.now c.loop-words.invariant
    (rw c.in-Some.is at c.in_ok-entry.ensures) c.in_ok-push.ensures.items
