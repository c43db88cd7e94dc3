use Rattle.mama_laws_allowed.proofs.Queues.{queues_lawful}
use Rattle.mama_laws_allowed.proofs.laws.queue_puts_are_lawful.Goals as goal

pub returns : goal.returns
returns c = queues_lawful
