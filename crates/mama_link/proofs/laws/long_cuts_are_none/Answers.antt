use Rattle.mama_link.proofs.CutLemmas.{long_cuts_are_none}
use Rattle.mama_link.proofs.laws.long_cuts_are_none.Goals as goal

pub returns : goal.returns
returns g c = long_cuts_are_none
