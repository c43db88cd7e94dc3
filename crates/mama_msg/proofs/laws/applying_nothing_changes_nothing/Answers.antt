use Rattle.mama_msg.proofs.Applying.{apply-nil}
use Rattle.mama_msg.proofs.laws.applying_nothing_changes_nothing.Goals as goal

pub returns : goal.returns
returns c = apply-nil
