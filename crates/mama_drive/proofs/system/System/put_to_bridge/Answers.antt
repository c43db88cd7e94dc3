use Rattle.std.proofs.Common.{refl}
use Rattle.mama_drive.proofs.StageLemmas.{on_ok}
use Rattle.mama_drive.proofs.SeatLemmas.{bridge_laid}
use Rattle.mama_drive.proofs.SystemLemmas.{with_bridge}
use Rattle.mama_drive.proofs.system.System.put_to_bridge.Goals as goal

pub invariant_of-self : goal.invariant_of-self
invariant_of-self c = with_bridge _ _ _ _ _ _ _ _ _ _ _ _ c.self.invariant _ c.put.ensures.shape

pub returns-clause-lane : goal.returns-clause-lane
returns-clause-lane c = on_ok c.put.result (bridge_laid _ c.args.self.now c.self.inside.bridge c.put.new.self _ c.self.view_is refl refl) c.put.ensures.lane
