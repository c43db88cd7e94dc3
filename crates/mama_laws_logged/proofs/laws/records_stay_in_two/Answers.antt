use Rattle.mama_laws_logged.proofs.InTwo.{records_stay}
use Rattle.mama_laws_logged.proofs.laws.records_stay_in_two.Goals as goal

pub returns : goal.returns
returns c = records_stay
