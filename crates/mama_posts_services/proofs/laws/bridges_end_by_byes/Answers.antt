use Rattle.mama_posts_services.proofs.ByesLemmas.{bridge_byes}
use Rattle.mama_posts_services.proofs.laws.bridges_end_by_byes.Goals as goal

pub returns : goal.returns
returns c = bridge_byes
