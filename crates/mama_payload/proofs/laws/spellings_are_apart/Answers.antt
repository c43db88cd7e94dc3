use Rattle.mama_payload.proofs.Messages.{spellings_apart, spellings_equal}
use Rattle.mama_payload.proofs.laws.spellings_are_apart.Goals as goal

pub returns-clause-apart : goal.returns-clause-apart
returns-clause-apart c = spellings_apart

pub returns-clause-equal : goal.returns-clause-equal
returns-clause-equal c = spellings_equal
