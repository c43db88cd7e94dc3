use Rattle.mama_link.proofs.PassLemmas.{slots-are-held}
use Rattle.mama_link.proofs.link.Link.into_held.Goals as goal

pub returns : goal.returns
returns g c = slots-are-held _ _ _ _ _ _ c.self.view_is c.self.invariant
