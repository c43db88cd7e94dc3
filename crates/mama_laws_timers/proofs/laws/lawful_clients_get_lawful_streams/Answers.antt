use Rattle.mama_rules_services.specs.Timers.{heard}
use Rattle.mama_laws_timers.proofs.QueueStreams.{streamed}
use Rattle.mama_laws_timers.proofs.Timely.{lawful_are_timely}
use Rattle.mama_laws_timers.proofs.laws.lawful_clients_get_lawful_streams.Goals as goal

pub returns : goal.returns
returns c = λ shape journal k lawful. (streamed k shape (heard shape journal) (lawful_are_timely shape journal lawful)).lawful
