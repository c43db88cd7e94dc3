use Rattle.mama_publisher.proofs.Sending.{takes}
use Rattle.mama_publisher.proofs.laws.taking_an_event.Goals as goal

pub returns : goal.returns
returns c = takes
