use Rattle.mama_rules_services.specs.Bridge.{heard}
use Rattle.mama_laws_lawful.proofs.QueueStreams.{streamed}
use Rattle.mama_laws_lawful.proofs.OtherStreams.{publisher_lawful, timers_lawful}
use Rattle.mama_laws_lawful.proofs.laws.timely_streams_are_lawful.Goals as goal

pub returns : goal.returns
returns c = λ shape journal timely. record {
  to_queues = λ k. (streamed k shape (heard shape journal) timely).lawful;
  to_publishers = λ r. publisher_lawful shape r (heard shape journal) timely;
  to_timers = timers_lawful shape (heard shape journal);
}
