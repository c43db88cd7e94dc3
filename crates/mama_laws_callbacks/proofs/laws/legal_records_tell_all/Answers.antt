use Rattle.mama_laws_callbacks.proofs.Objects.{legal_records_tell}
use Rattle.mama_laws_callbacks.proofs.laws.legal_records_tell_all.Goals as goal

pub returns : goal.returns
returns c = legal_records_tell
