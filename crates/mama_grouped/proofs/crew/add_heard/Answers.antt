use Rattle.std.proofs.Common.{[], ◌∷◌, ◌++◌, sym, ap, subst, ◌∙◌}
use Rattle.std.proofs.lemmas.Result.{IfOk-from_err, on_ok_weaker}
use Rattle.mama_grouped.specs.New.{AddsHeard}
use Rattle.mama_grouped.proofs.crew.add_heard.Goals as goal

pub returns : goal.returns
returns g c =
    on_ok_weaker c.if_found-found.result.1
    (λ is. subst (λ r. AddsHeard c.args.seat r c.args.grouped.now.items c.add.new.grouped.items) (sym is) (c.in_ok-add.ensures ∙ ap (λ s. c.args.grouped.now.items ++ s ∷ []) c.beside.ensures))
    c.if_found-found.ensures

pub returns-in_err-add : goal.returns-in_err-add
returns-in_err-add g c = IfOk-from_err c.from_residual.result _ c.from_residual.ensures.0
