use Rattle.mama_laws_legal.proofs.OneRecord.{one_record_given}
use Rattle.mama_laws_legal.proofs.laws.one_record.Goals as goal

pub returns : goal.returns
returns c = one_record_given
