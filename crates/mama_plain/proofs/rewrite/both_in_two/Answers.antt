use Rattle.std.proofs.Common.{arith}
use Rattle.mama_plain.proofs.VerdictLemmas.{unfit_within}
use Rattle.mama_plain.proofs.rewrite.both_in_two.Goals as goal

pub overflow_add-result-in-Err-Bad : goal.overflow_add-result-in-Err-Bad
overflow_add-result-in-Err-Bad c =
    let unfit = rw c.in-Err-Bad.field-0-is at c.in-Err-Bad.ensures.unfit in omega (arith, unfit_within _ _ _ unfit, c.line_count.ensures.within, c.requires)

pub returns-in-Ok-log_in_two-clause-written : goal.returns-in-Ok-log_in_two-clause-written
returns-in-Ok-log_in_two-clause-written c =
    let w = c.in-Ok-log_in_two.ensures.written in (c.in-Ok.script, c.in-Ok.ensures.found.0, c.in-Ok.ensures.found.1, w.0, w.1, w.2, w.3, w.4, w.5)
