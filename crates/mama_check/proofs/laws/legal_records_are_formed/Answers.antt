use Rattle.mama_check.proofs.FormLaw.{legal_is_formed}
use Rattle.mama_check.proofs.laws.legal_records_are_formed.Goals as goal

pub returns : goal.returns
returns c = legal_is_formed
