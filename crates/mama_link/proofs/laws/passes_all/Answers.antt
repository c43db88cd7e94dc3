use Rattle.mama_link.proofs.LawLemmas.{passes_all}
use Rattle.mama_link.proofs.laws.passes_all.Goals as goal

pub returns : goal.returns
returns g c = passes_all
