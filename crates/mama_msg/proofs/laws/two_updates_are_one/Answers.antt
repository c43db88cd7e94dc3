use Rattle.mama_msg.proofs.Applying.{apply-apply}
use Rattle.mama_msg.proofs.laws.two_updates_are_one.Goals as goal

pub returns : goal.returns
returns c = apply-apply
