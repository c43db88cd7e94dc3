use Rattle.mama_link.proofs.LawLemmas.{at_most_twice}
use Rattle.mama_link.proofs.laws.at_most_twice.Goals as goal

pub returns : goal.returns
returns g c = at_most_twice
