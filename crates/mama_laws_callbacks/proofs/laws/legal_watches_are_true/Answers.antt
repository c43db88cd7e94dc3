use Rattle.mama_laws_callbacks.proofs.Watching.{legal_watches_are_true}
use Rattle.mama_laws_callbacks.proofs.laws.legal_watches_are_true.Goals as goal

pub returns : goal.returns
returns c = legal_watches_are_true
