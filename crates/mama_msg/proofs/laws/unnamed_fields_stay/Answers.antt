use Rattle.mama_msg.proofs.Applying.{slice_get-apply_kept}
use Rattle.mama_msg.proofs.laws.unnamed_fields_stay.Goals as goal

pub returns : goal.returns
returns c = slice_get-apply_kept
