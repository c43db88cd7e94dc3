use Rattle.mama_log_read.proofs.Told.{count_found, count_none}
use Rattle.mama_log_read.proofs.parsing.count_told.Goals as goal

pub returns-clause-found : goal.returns-clause-found
returns-clause-found c = count_found c.args.version c.args.section c.args.head.now c.args.line.now c.in_ok-count.count c.requires.head c.requires.counted c.in_ok-count.ensures.found

pub returns-in_err-count-clause-none : goal.returns-in_err-count-clause-none
returns-in_err-count-clause-none c =
    rw c.from_residual.ensures (count_none c.args.version c.args.section c.args.head.now c.args.line.now c.requires.head c.requires.counted c.in_err-count.ensures.none)
