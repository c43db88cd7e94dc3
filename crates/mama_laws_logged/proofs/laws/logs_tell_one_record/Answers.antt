use Rattle.mama_laws_logged.proofs.OneRecord.{one_record}
use Rattle.mama_laws_logged.proofs.laws.logs_tell_one_record.Goals as goal

pub returns : goal.returns
returns c = one_record
