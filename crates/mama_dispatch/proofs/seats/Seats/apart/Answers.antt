use Rattle.std.proofs.Common.{subst}
use Rattle.mama_dispatch.specs.Seats.{AreApart}
use Rattle.mama_dispatch.proofs.seats.Seats.apart.Goals as goal

pub returns : goal.returns
returns g c = subst AreApart c.self.view_is c.self.invariant.kept.apart
