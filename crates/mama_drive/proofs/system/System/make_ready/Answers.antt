use Rattle.std.proofs.Common.{sym, subst, ap, true}
use Rattle.mama_drive.specs.Scene.{Scene, AreTold}
use Rattle.mama_drive.proofs.SystemLemmas.{made_ready}
use Rattle.mama_drive.proofs.system.System.make_ready.Goals as goal

pub invariant_of-self : goal.invariant_of-self
invariant_of-self c = made_ready _ _ _ _ _ _ _ _ _ _ _ _ c.self.invariant (subst AreTold (sym c.self.view_is) c.requires)

pub returns : goal.returns
returns c = ap (λ (s : Scene). record s { ready = true }) c.self.view_is
