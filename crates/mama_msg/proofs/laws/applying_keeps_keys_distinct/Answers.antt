use Rattle.mama_msg.proofs.Applying.{AreDistinct-apply}
use Rattle.mama_msg.proofs.laws.applying_keeps_keys_distinct.Goals as goal

pub returns : goal.returns
returns c = AreDistinct-apply
