use Rattle.std.specs.Prelude.{Some}
use Rattle.std.proofs.Common.{ap, ◌∙◌}
use Rattle.mama_plans.specs.declared.plans.PlannedObject.{PlannedObject}
use Rattle.mama_check.proofs.ImageWalk.{object_there}
use Rattle.mama_check.proofs.broken.object_at.Goals as goal

pub returns : goal.returns
returns c =
    object_there c.args.plans.now c.objects-objects.result.now c.args.number c.index-objects-number.result c.objects-objects.ensures c.requires c.index-objects-number.is
    ∙ ap (λ (y : PlannedObject). Some y.object) c.index-objects-number.is
