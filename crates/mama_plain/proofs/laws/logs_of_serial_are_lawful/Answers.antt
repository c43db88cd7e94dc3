use Rattle.mama_plain.proofs.OwnLemmas.{logs_are_lawful}
use Rattle.mama_plain.proofs.laws.logs_of_serial_are_lawful.Goals as goal

pub returns : goal.returns
returns c = logs_are_lawful c.legal_records_keep_promises.ensures c.round_is_legal.ensures c.rounds_are_causal.ensures
