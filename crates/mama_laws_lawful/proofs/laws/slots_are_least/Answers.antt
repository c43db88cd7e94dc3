use Rattle.mama_rules_services.specs.Bridge.{heard}
use Rattle.mama_laws_lawful.proofs.QueueStreams.{streamed}
use Rattle.mama_laws_lawful.proofs.laws.slots_are_least.Goals as goal

pub returns : goal.returns
returns c = λ shape journal k timely. (streamed k shape (heard shape journal) timely).least
