use Rattle.mama_plain.proofs.KeptLemmas.{rewritten_kept}
use Rattle.mama_plain.proofs.laws.rewritten_is_kept.Goals as goal

pub returns : goal.returns
returns c = rewritten_kept c.logs_tell_one_record.ensures c.records_stay_in_two.ensures
