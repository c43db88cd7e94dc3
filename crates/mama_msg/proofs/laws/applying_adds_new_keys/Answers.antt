use Rattle.mama_msg.proofs.Applying.{length-apply}
use Rattle.mama_msg.proofs.laws.applying_adds_new_keys.Goals as goal

pub returns : goal.returns
returns c = length-apply
