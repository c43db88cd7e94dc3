use Rattle.mama_link.proofs.CutLemmas.{cuts_keep_all}
use Rattle.mama_link.proofs.laws.cuts_keep_all.Goals as goal

pub returns : goal.returns
returns g c = cuts_keep_all
