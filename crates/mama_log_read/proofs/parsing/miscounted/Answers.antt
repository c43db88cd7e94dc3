use Rattle.std.proofs.Common.{refl}
use Rattle.mama_log_read.proofs.Taking.{tally_nothing, tally_same, tally_other}
use Rattle.mama_log_read.proofs.parsing.miscounted.Goals as goal

pub returns-in-Nothing-clause-none : goal.returns-in-Nothing-clause-none
returns-in-Nothing-clause-none c = tally_nothing c.args.told c.args.entries.now c.args.after.now c.in-Nothing.is

pub returns-then-count-read-clause-none : goal.returns-then-count-read-clause-none
returns-then-count-read-clause-none c =
    tally_same c.args.told c.in-Lines.count _ c.line_number-read.result c.args.entries.now c.args.after.now c.in-Lines.is refl c.if-count-read.true c.line_number-read.ensures.value

pub returns-else-count-read-clause-some : goal.returns-else-count-read-clause-some
returns-else-count-read-clause-some c =
    tally_other c.args.told c.in-Lines.count _ c.line_number-read.result c.lower_of-fewer.result c.args.entries.now c.args.after.now c.behind_lines.result.now c.in-Lines.is refl c.if-count-read.false c.lower_of-fewer.ensures c.line_number-read.ensures.value
    c.behind_lines.ensures
