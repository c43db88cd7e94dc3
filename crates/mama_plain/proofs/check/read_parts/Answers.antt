use Rattle.std.proofs.Common.{arith}
use Rattle.mama_plain.proofs.VerdictLemmas.{unfit_within, told_text}
use Rattle.mama_plain.proofs.check.read_parts.Goals as goal

pub overflow_add-result-in-Err-Bad : goal.overflow_add-result-in-Err-Bad
overflow_add-result-in-Err-Bad c =
    let unfit = rw c.in-Err-Bad.field-0-is at c.in-Err-Bad.ensures.unfit in omega (arith, unfit_within _ _ _ unfit, c.line_count.ensures.within, c.requires)

pub returns-in-Ok-told_by-clause-read : goal.returns-in-Ok-told_by-clause-read
returns-in-Ok-told_by-clause-read c =
    told_text c.in-Ok.script c.args.front.now c.args.log.now c.in-Ok-told_by.run' c.in-Ok.ensures.found.0 c.in-Ok.ensures.found.1 c.in-Ok-told_by.ensures.read
