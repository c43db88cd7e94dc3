use Rattle.mama_dq.proofs.StaleLaw.{stale_law}
use Rattle.mama_dq.proofs.laws.stale_law.Goals as goal

pub returns : goal.returns
returns c = stale_law
