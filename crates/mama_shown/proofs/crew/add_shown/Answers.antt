use Rattle.std.proofs.Common.{[], ◌∷◌, ◌++◌, sym, ap, subst, ◌∙◌}
use Rattle.std.proofs.lemmas.Result.{IfOk-from_err, on_ok_weaker}
use Rattle.mama_shown.specs.New.{AddsShown}
use Rattle.mama_shown.proofs.crew.add_shown.Goals as goal

pub returns : goal.returns
returns g c =
    on_ok_weaker c.if_opened-opened.result.1
    (λ is. subst (λ r. AddsShown c.args.seat r c.args.shown.now.items c.add.new.shown.items) (sym is) (c.in_ok-add.ensures ∙ ap (λ s. c.args.shown.now.items ++ s ∷ []) c.beside.ensures))
    c.if_opened-opened.ensures

pub returns-in_err-add : goal.returns-in_err-add
returns-in_err-add g c = IfOk-from_err c.from_residual.result _ c.from_residual.ensures.0
