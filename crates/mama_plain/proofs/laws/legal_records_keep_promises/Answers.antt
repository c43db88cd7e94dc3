use Rattle.mama_plain.proofs.OwnLemmas.{legal_keeps}
use Rattle.mama_plain.proofs.laws.legal_records_keep_promises.Goals as goal

pub returns : goal.returns
returns c = legal_keeps c.legal_records_are_true.ensures
