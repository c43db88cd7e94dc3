use Rattle.mama_dq.proofs.OrderlyLaw.{orderly_law}
use Rattle.mama_dq.proofs.laws.orderly_law.Goals as goal

pub returns : goal.returns
returns c = orderly_law
