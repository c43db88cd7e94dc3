use Rattle.std.proofs.Common.{◌∙◌, subst}
use Rattle.std.proofs.lemmas.Result.{on_ok_weaker, IfOk-from_err}
use Rattle.mama_shown.specs.Last.{ShowsLast}
use Rattle.mama_shown.proofs.Imaging.{on_ok_always}
use Rattle.mama_shown.proofs.closing.Learnt.add.Goals as goal

pub returns-in_err-push-clause-seats : goal.returns-in_err-push-clause-seats
returns-in_err-push-clause-seats g c = IfOk-from_err c.from_residual.result _ c.from_residual.ensures.0

pub returns-in_err-push-clause-readers : goal.returns-in_err-push-clause-readers
returns-in_err-push-clause-readers g c = IfOk-from_err c.from_residual.result _ c.from_residual.ensures.0

pub returns-in-Some-clause-seats : goal.returns-in-Some-clause-seats
returns-in-Some-clause-seats g c = on_ok_always c.add_board.result (c.add_board.ensures.seats ∙ c.in_ok-push.ensures.items)

pub returns-in-Some-clause-readers : goal.returns-in-Some-clause-readers
returns-in-Some-clause-readers g c =
    on_ok_weaker c.add_board.result (λ h objects journals last before. h objects journals (subst (λ o. ShowsLast objects journals o) c.in-Some.is last) before) c.add_board.ensures.readers

pub returns-in-None-clause-seats : goal.returns-in-None-clause-seats
returns-in-None-clause-seats g c = c.in_ok-push.ensures.items

pub returns-in-None-clause-readers : goal.returns-in-None-clause-readers
returns-in-None-clause-readers g c = λ objects journals last before. before
