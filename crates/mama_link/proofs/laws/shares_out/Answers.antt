use Rattle.mama_link.proofs.LawLemmas.{shares_out}
use Rattle.mama_link.proofs.laws.shares_out.Goals as goal

pub returns : goal.returns
returns g c = shares_out
