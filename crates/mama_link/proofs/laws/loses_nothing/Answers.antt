use Rattle.mama_link.proofs.LawLemmas.{loses_nothing}
use Rattle.mama_link.proofs.laws.loses_nothing.Goals as goal

pub returns : goal.returns
returns g c = loses_nothing
