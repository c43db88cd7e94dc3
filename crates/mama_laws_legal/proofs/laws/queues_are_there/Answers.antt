use Rattle.mama_laws_legal.proofs.QueuesThere.{queues_there}
use Rattle.mama_laws_legal.proofs.laws.queues_are_there.Goals as goal

pub returns : goal.returns
returns c = queues_there
