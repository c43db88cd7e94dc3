use Rattle.mama_rules_services.specs.Bridge.{heard}
use Rattle.mama_laws_lawful.proofs.QueueStreams.{streamed}
use Rattle.mama_laws_lawful.proofs.OtherStreams.{publisher_lawful, timers_lawful}
use Rattle.mama_laws_lawful.proofs.Timely.{lawful_are_timely}
use Rattle.mama_laws_lawful.proofs.laws.lawful_clients_get_lawful_streams.Goals as goal

pub returns : goal.returns
returns c = λ shape journal lawful. record {
  to_queues = λ k. (streamed k shape (heard shape journal) (lawful_are_timely shape journal lawful)).lawful;
  to_publishers = λ r. publisher_lawful shape r (heard shape journal) (lawful_are_timely shape journal lawful);
  to_timers = timers_lawful shape (heard shape journal);
}
