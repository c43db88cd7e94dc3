use Rattle.std.proofs.Common.{refl, [], ◌∷◌, ◌++◌, ◌∙◌, ap}
use Rattle.std.proofs.lemmas.Result.{IfOk-from_err}
use Rattle.mama_shown.proofs.crew.board_of.Goals as goal

pub returns-clause-board : goal.returns-clause-board
returns-clause-board g c = c.in_ok-board.ensures.board

pub returns-clause-new : goal.returns-clause-new
returns-clause-new g c = (refl, refl)

pub returns-clause-readers : goal.returns-clause-readers
returns-clause-readers g c = c.in_ok-push.ensures.items ∙ ap (λ r. c.args.readers.now.items ++ r ∷ []) c.in_ok-board.ensures.reader

pub returns-in_err-board-clause-board : goal.returns-in_err-board-clause-board
returns-in_err-board-clause-board g c = IfOk-from_err c.from_residual.result _ c.from_residual.ensures.0

pub returns-in_err-board-clause-new : goal.returns-in_err-board-clause-new
returns-in_err-board-clause-new g c = IfOk-from_err c.from_residual.result _ c.from_residual.ensures.0

pub returns-in_err-board-clause-readers : goal.returns-in_err-board-clause-readers
returns-in_err-board-clause-readers g c = IfOk-from_err c.from_residual.result _ c.from_residual.ensures.0

pub returns-in_err-push-clause-board : goal.returns-in_err-push-clause-board
returns-in_err-push-clause-board g c = IfOk-from_err c.from_residual-in_err-push.result _ c.from_residual-in_err-push.ensures.0

pub returns-in_err-push-clause-new : goal.returns-in_err-push-clause-new
returns-in_err-push-clause-new g c = IfOk-from_err c.from_residual-in_err-push.result _ c.from_residual-in_err-push.ensures.0

pub returns-in_err-push-clause-readers : goal.returns-in_err-push-clause-readers
returns-in_err-push-clause-readers g c = IfOk-from_err c.from_residual-in_err-push.result _ c.from_residual-in_err-push.ensures.0
