use Rattle.mama_msg.proofs.Applying.{slice_get-apply_replaced}
use Rattle.mama_msg.proofs.laws.named_fields_are_replaced.Goals as goal

pub returns : goal.returns
returns c = slice_get-apply_replaced
