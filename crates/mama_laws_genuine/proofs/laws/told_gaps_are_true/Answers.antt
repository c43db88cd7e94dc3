use Rattle.mama_laws_genuine.proofs.Truths.{told_gaps_are_true}
use Rattle.mama_laws_genuine.proofs.laws.told_gaps_are_true.Goals as goal

pub returns : goal.returns
returns c = told_gaps_are_true
