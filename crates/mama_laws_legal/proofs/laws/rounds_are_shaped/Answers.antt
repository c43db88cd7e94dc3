use Rattle.mama_laws_legal.proofs.Whole.{shaped}
use Rattle.mama_laws_legal.proofs.laws.rounds_are_shaped.Goals as goal

pub returns : goal.returns
returns c = shaped
