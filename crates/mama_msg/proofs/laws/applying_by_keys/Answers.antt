use Rattle.mama_msg.proofs.Applying.{with_key-apply}
use Rattle.mama_msg.proofs.laws.applying_by_keys.Goals as goal

pub returns : goal.returns
returns c = with_key-apply
