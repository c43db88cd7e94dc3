use Rattle.mama_msg.proofs.Applying.{apply-from_nil}
use Rattle.mama_msg.proofs.laws.applying_to_nothing_gives_the_update.Goals as goal

pub returns : goal.returns
returns c = apply-from_nil
