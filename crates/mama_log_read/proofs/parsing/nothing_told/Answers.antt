use Rattle.mama_log_read.proofs.Told.{bare_found, bare_none}
use Rattle.mama_log_read.proofs.parsing.nothing_told.Goals as goal

pub returns-then-eq-clause-found : goal.returns-then-eq-clause-found
returns-then-eq-clause-found c = bare_found c.args.version c.args.section c.args.head.now c.args.line.now c.requires.head c.requires.counted c.if-eq.ensures

pub returns-else-eq-clause-none : goal.returns-else-eq-clause-none
returns-else-eq-clause-none c = bare_none c.args.version c.args.section c.args.head.now c.args.line.now c.requires.head c.requires.counted c.if-eq.ensures
