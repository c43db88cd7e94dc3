use Rattle.mama_publisher.proofs.Sending.{sends_recap}
use Rattle.mama_publisher.proofs.laws.sending_a_recap.Goals as goal

pub returns : goal.returns
returns c = sends_recap
