use Rattle.mama_record.specs.LogText.{clock_text}
use Rattle.mama_log_read.specs.Logged.{IsMoment}
use Rattle.mama_log_read.proofs.Spelled.{plain_moment}
use Rattle.mama_log_read.proofs.Taking.{some_next, none_next, next_uncut}
use Rattle.mama_log_read.proofs.entries.next_moment.Goals as goal

pub returns-in-Some-2 : goal.returns-in-Some-2
returns-in-Some-2 c =
    some_next IsMoment clock_text c.args.text.now c.in-Some.line.now c.in-Some.after.now c.in_ok-entry-in-Some.field-0 c.in-Some-2.entry c.in-Some.ensures c.in-Some-2.is c.in_ok-entry-in-Some.ensures.found

pub returns-in-None-2 : goal.returns-in-None-2
returns-in-None-2 c =
    none_next IsMoment clock_text plain_moment c.args.text.now c.in-Some.line.now c.in-Some.after.now c.in_ok-entry-in-Some.field-0 c.in-Some.ensures c.in-None-2.is c.in_ok-entry-in-Some.ensures.again

pub returns-in-None : goal.returns-in-None
returns-in-None c = next_uncut IsMoment clock_text plain_moment c.args.text.now c.in-None.ensures
