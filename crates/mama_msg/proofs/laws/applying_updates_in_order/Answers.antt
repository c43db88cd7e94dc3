use Rattle.mama_msg.proofs.Applying.{fold-updated}
use Rattle.mama_msg.proofs.laws.applying_updates_in_order.Goals as goal

pub returns : goal.returns
returns c = fold-updated
