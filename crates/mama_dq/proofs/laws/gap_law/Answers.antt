use Rattle.mama_dq.proofs.GapLaw.{gap_law}
use Rattle.mama_dq.proofs.laws.gap_law.Goals as goal

pub returns : goal.returns
returns c = gap_law
