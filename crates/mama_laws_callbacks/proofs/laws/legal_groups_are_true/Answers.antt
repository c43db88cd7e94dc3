use Rattle.mama_laws_callbacks.proofs.Members.{legal_groups_are_true}
use Rattle.mama_laws_callbacks.proofs.laws.legal_groups_are_true.Goals as goal

pub returns : goal.returns
returns c = legal_groups_are_true
