use Rattle.mama_laws_logged.proofs.Logged.{records_are_logged}
use Rattle.mama_laws_logged.proofs.laws.legal_records_are_logged.Goals as goal

pub returns : goal.returns
returns c = records_are_logged
