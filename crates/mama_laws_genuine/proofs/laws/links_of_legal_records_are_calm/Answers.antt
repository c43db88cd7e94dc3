use Rattle.mama_laws_genuine.proofs.CalmLinks.{legal_links_are_calm}
use Rattle.mama_laws_genuine.proofs.laws.links_of_legal_records_are_calm.Goals as goal

pub returns : goal.returns
returns c = legal_links_are_calm
