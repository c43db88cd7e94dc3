use Rattle.std.proofs.lemmas.Result.{IfOk-from_err}
use Rattle.mama_play.proofs.playing.play.Goals as goal

pub returns-clause-legal : goal.returns-clause-legal
returns-clause-legal g c = c.in_ok-run.ensures.legal

pub returns-clause-promised : goal.returns-clause-promised
returns-clause-promised g c = c.in_ok-run.ensures.promised

pub returns-clause-listeners : goal.returns-clause-listeners
returns-clause-listeners g c = c.in_ok-run.ensures.listeners

pub returns-in_err-run-clause-legal : goal.returns-in_err-run-clause-legal
returns-in_err-run-clause-legal g c = IfOk-from_err c.from_residual.result _ c.from_residual.ensures.0

pub returns-in_err-run-clause-promised : goal.returns-in_err-run-clause-promised
returns-in_err-run-clause-promised g c = IfOk-from_err c.from_residual.result _ c.from_residual.ensures.0

pub returns-in_err-run-clause-listeners : goal.returns-in_err-run-clause-listeners
returns-in_err-run-clause-listeners g c = IfOk-from_err c.from_residual.result _ c.from_residual.ensures.0
