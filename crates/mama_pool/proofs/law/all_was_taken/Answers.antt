use Rattle.mama_pool.proofs.Taken.{all_taken}
use Rattle.mama_pool.proofs.law.all_was_taken.Goals as goal

pub returns : goal.returns
returns c = λ hands P closed empty weight. all_taken hands P weight closed empty
