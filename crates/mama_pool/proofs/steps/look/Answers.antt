use Rattle.mama_pool.proofs.Tallies.{looks}
use Rattle.mama_pool.proofs.steps.look.Goals as goal

pub read_words-requires-clause-rule : goal.read_words-requires-clause-rule
read_words-requires-clause-rule g c = looks _ _
