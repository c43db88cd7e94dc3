use Rattle.std.proofs.lemmas.Result.{IfOk-from_err}
use Rattle.mama_plain.proofs.replay.print_replay.Goals as goal

pub returns-in_err-put_steps : goal.returns-in_err-put_steps
returns-in_err-put_steps c = IfOk-from_err c.from_residual.result _ c.from_residual.ensures.0

pub returns-in_err-log : goal.returns-in_err-log
returns-in_err-log c = IfOk-from_err c.from_residual-in_err-log.result _ c.from_residual-in_err-log.ensures.0

pub returns-in_err-extend_from_slice : goal.returns-in_err-extend_from_slice
returns-in_err-extend_from_slice c = IfOk-from_err c.from_residual-in_err-extend_from_slice.result _ c.from_residual-in_err-extend_from_slice.ensures.0
