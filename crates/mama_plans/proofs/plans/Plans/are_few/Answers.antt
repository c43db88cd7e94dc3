use Rattle.std.proofs.Common.{subst}
use Rattle.mama_plans.specs.Plans.{AreFew}
use Rattle.mama_plans.proofs.plans.Plans.are_few.Goals as goal

pub returns : goal.returns
returns c = subst AreFew c.self.view_is c.self.invariant.few
