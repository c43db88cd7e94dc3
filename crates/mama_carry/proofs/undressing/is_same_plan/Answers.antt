use Rattle.std.proofs.Common.{sym, ◌∙◌}
use Rattle.std.specs.Cmp.Lexicographic.{pointwise_decides}
use Rattle.mama_event.specs.EqualityLaws.{same_plan_row-Decides}
use Rattle.mama_carry.proofs.undressing.is_same_plan.Goals as goal

pub returns : goal.returns
returns c =
    let same = pointwise_decides same_plan_row-Decides c.args.rows.now c.args.plan.now in
    (λ h. same.0 (sym c.eq.ensures ∙ h), λ e. c.eq.ensures ∙ same.1 e)
