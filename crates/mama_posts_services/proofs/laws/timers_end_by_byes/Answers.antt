use Rattle.mama_posts_services.proofs.ByesLemmas.{timers_byes}
use Rattle.mama_posts_services.proofs.laws.timers_end_by_byes.Goals as goal

pub returns : goal.returns
returns c = timers_byes
