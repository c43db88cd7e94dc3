use Rattle.mama_laws_gather.proofs.Gathering.{gathered}
use Rattle.mama_laws_gather.proofs.laws.gathered_is_legal.Goals as goal

pub returns : goal.returns
returns c = gathered
