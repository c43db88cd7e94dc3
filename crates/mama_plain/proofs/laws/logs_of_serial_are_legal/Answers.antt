use Rattle.mama_plain.proofs.OwnLemmas.{logs_are_legal}
use Rattle.mama_plain.proofs.laws.logs_of_serial_are_legal.Goals as goal

pub returns : goal.returns
returns c = logs_are_legal c.logs_of_serial_are_lawful.ensures
