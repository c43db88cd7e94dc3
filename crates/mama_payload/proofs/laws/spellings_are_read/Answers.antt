use Rattle.mama_payload.proofs.Messages.{decoded-spelling, decoded-longer, decoded-shorter}
use Rattle.mama_payload.proofs.laws.spellings_are_read.Goals as goal

pub returns-clause-whole : goal.returns-clause-whole
returns-clause-whole c = decoded-spelling

pub returns-clause-longer : goal.returns-clause-longer
returns-clause-longer c = decoded-longer

pub returns-clause-shorter : goal.returns-clause-shorter
returns-clause-shorter c = decoded-shorter
