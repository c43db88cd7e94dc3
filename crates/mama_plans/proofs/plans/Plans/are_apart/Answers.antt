use Rattle.std.proofs.Common.{subst}
use Rattle.mama_plans.specs.Plans.{AreApart}
use Rattle.mama_plans.proofs.plans.Plans.are_apart.Goals as goal

pub returns : goal.returns
returns c = subst AreApart c.self.view_is c.self.invariant.apart
