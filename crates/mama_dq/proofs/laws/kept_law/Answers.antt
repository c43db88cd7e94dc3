use Rattle.mama_dq.proofs.KeptLaw.{kept_law}
use Rattle.mama_dq.proofs.laws.kept_law.Goals as goal

pub returns : goal.returns
returns c = kept_law
