use Rattle.mama_laws_callbacks.proofs.Plainly.{legal_records_tell_plainly}
use Rattle.mama_laws_callbacks.proofs.laws.legal_records_tell_plainly.Goals as goal

pub returns : goal.returns
returns c = legal_records_tell_plainly
