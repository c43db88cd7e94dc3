use Rattle.std.proofs.Common.{drop}
use Rattle.mama_record.specs.RunView as view
use Rattle.mama_plans.specs.Plans.{planned_objects}
use Rattle.mama_check.proofs.ImageWalk.{IsAt}
use Rattle.mama_check.proofs.images.first_of_images.Given as goal

abbrev pub invariant-loop-k : goal.invariant-loop-k
invariant-loop-k l = IsAt l.script l.run l.k (planned_objects (drop l.k l.objects)) (view.images_of l.left)
