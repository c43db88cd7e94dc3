use Rattle.mama_publisher.proofs.Sending.{tells_end}
use Rattle.mama_publisher.proofs.laws.telling_the_end_of_sends.Goals as goal

pub returns : goal.returns
returns c = tells_end
