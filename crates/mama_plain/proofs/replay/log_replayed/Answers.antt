use Rattle.std.proofs.Common.{arith}
use Rattle.std.proofs.lemmas.Result.{IfOk-weaker, IfErr-weaker}
use Rattle.mama_plain.proofs.VerdictLemmas.{unfit_within}
use Rattle.mama_plain.proofs.ReplayLemmas.{replayed_text, no_replay_of_run, no_bad_line}
use Rattle.mama_plain.proofs.replay.log_replayed.Goals as goal

pub overflow_add-result-in-Err-Bad : goal.overflow_add-result-in-Err-Bad
overflow_add-result-in-Err-Bad c =
    let unfit = rw c.in-Err-Bad.field-0-is at c.in-Err-Bad.ensures.unfit in omega (arith, unfit_within _ _ _ unfit, c.line_count.ensures.within, c.requires)

pub returns-in-Ok-told_by-clause-out : goal.returns-in-Ok-told_by-clause-out
returns-in-Ok-told_by-clause-out c =
    IfOk-weaker c.run_replayed.result _ _
    (λ out by. replayed_text c.in-Ok.script c.args.front.now c.args.log.now c.in-Ok-told_by.run' c.version_of.result out.items c.in-Ok.ensures.found.0 c.in-Ok.ensures.found.1 c.in-Ok-told_by.ensures.read
    c.version_of.ensures by) c.run_replayed.ensures.out

pub returns-in-Ok-told_by-clause-cause : goal.returns-in-Ok-told_by-clause-cause
returns-in-Ok-told_by-clause-cause c =
    IfErr-weaker c.run_replayed.result _ _
    (λ cause is. no_replay_of_run c.in-Ok.script c.args.front.now c.args.log.now c.in-Ok-told_by.run' cause c.in-Ok.ensures.found.0 c.in-Ok.ensures.found.1 c.in-Ok-told_by.ensures.read is)
    c.run_replayed.ensures.cause

pub returns-in-Ok-told_by-clause-fitting : goal.returns-in-Ok-told_by-clause-fitting
returns-in-Ok-told_by-clause-fitting c =
    λ script run accepted spelled logged v known whole line is. no_bad_line c.in-Ok.script c.in-Ok-told_by.run' c.run_replayed.result c.run_replayed.ensures.cause line is
