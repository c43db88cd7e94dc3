use Rattle.mama_rules_services.specs.Bridge.{heard}
use Rattle.mama_laws_lawful.proofs.OtherStreams.{timers_lawful}
use Rattle.mama_laws_lawful.proofs.laws.timers_get_a_lawful_stream.Goals as goal

pub returns : goal.returns
returns c = λ shape journal. timers_lawful shape (heard shape journal)
