use Rattle.mama_log_read.proofs.Taking.{head_found, head_other, head_uncut}
use Rattle.mama_log_read.proofs.parsing.behind_head.Goals as goal

pub returns-in-Some-told_by-clause-found : goal.returns-in-Some-told_by-clause-found
returns-in-Some-told_by-clause-found c =
    head_found c.args.version c.args.section c.args.text.now c.in-Some.line.now c.in-Some.after.now c.in-Some-told_by.told c.in-Some.ensures (rw c.in-Some-told_by.is at c.told_by.ensures.found)

pub returns-in-Some-clause-none : goal.returns-in-Some-clause-none
returns-in-Some-clause-none c =
    head_other c.args.version c.args.section c.args.text.now c.in-Some.line.now c.in-Some.after.now c.in-Some.ensures (rw c.in-None-told_by.is at c.told_by.ensures.none)

pub returns-clause-none : goal.returns-clause-none
returns-clause-none c = head_uncut c.args.version c.args.section c.args.text.now c.in-None.ensures
