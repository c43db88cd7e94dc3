use Rattle.mama_publisher.proofs.Sending.{sends_update}
use Rattle.mama_publisher.proofs.laws.sending_an_update.Goals as goal

pub returns : goal.returns
returns c = sends_update
