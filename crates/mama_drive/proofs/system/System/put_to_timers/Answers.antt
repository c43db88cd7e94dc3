use Rattle.std.proofs.Common.{refl}
use Rattle.mama_drive.proofs.StageLemmas.{on_ok}
use Rattle.mama_drive.proofs.SeatLemmas.{timers_laid}
use Rattle.mama_drive.proofs.SystemLemmas.{with_timers}
use Rattle.mama_drive.proofs.system.System.put_to_timers.Goals as goal

pub invariant_of-self : goal.invariant_of-self
invariant_of-self c = with_timers _ _ _ _ _ _ _ _ _ _ _ _ c.self.invariant _ c.put.ensures.shape

pub returns-clause-lane : goal.returns-clause-lane
returns-clause-lane c = on_ok c.put.result (timers_laid _ c.args.self.now c.self.inside.timers c.put.new.self _ c.self.view_is refl refl) c.put.ensures.lane
