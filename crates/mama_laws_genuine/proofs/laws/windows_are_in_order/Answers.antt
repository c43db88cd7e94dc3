use Rattle.mama_laws_genuine.proofs.Ordered.{windows_are_in_order}
use Rattle.mama_laws_genuine.proofs.laws.windows_are_in_order.Goals as goal

pub returns : goal.returns
returns c = windows_are_in_order
