use Rattle.mama_laws_genuine.proofs.Calm.{faultless_is_calm}
use Rattle.mama_laws_genuine.proofs.laws.faultless_links_are_calm.Goals as goal

pub returns : goal.returns
returns c = faultless_is_calm
