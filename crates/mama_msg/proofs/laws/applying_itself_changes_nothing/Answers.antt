use Rattle.mama_msg.proofs.Applying.{apply-self}
use Rattle.mama_msg.proofs.laws.applying_itself_changes_nothing.Goals as goal

pub returns : goal.returns
returns c = apply-self
