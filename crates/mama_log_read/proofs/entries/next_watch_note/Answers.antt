use Rattle.mama_log_line.specs.Entering.{MayNote}
use Rattle.mama_record.specs.LogText.{watch_note_text}
use Rattle.mama_log_read.proofs.Spelled.{plain_watch}
use Rattle.mama_log_read.proofs.Taking.{some_next, none_next, next_uncut}
use Rattle.mama_log_read.proofs.entries.next_watch_note.Goals as goal

pub returns-in-Some-2 : goal.returns-in-Some-2
returns-in-Some-2 c =
    some_next MayNote watch_note_text c.args.text.now c.in-Some.line.now c.in-Some.after.now c.in_ok-entry-in-Some.field-0 c.in-Some-2.entry c.in-Some.ensures c.in-Some-2.is c.in_ok-entry-in-Some.ensures.found

pub returns-in-None-2 : goal.returns-in-None-2
returns-in-None-2 c =
    none_next MayNote watch_note_text plain_watch c.args.text.now c.in-Some.line.now c.in-Some.after.now c.in_ok-entry-in-Some.field-0 c.in-Some.ensures c.in-None-2.is c.in_ok-entry-in-Some.ensures.again

pub returns-in-None : goal.returns-in-None
returns-in-None c = next_uncut MayNote watch_note_text plain_watch c.args.text.now c.in-None.ensures
