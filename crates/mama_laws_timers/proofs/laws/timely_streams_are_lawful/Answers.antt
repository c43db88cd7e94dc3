use Rattle.mama_rules_services.specs.Timers.{heard}
use Rattle.mama_laws_timers.proofs.QueueStreams.{streamed}
use Rattle.mama_laws_timers.proofs.laws.timely_streams_are_lawful.Goals as goal

pub returns : goal.returns
returns c = λ shape journal k timely. (streamed k shape (heard shape journal) timely).lawful
