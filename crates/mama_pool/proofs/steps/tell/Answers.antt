use Rattle.mama_pool.proofs.Tallies.{tells}
use Rattle.mama_pool.proofs.steps.tell.Goals as goal

pub split_passes-requires-clause-rule : goal.split_passes-requires-clause-rule
split_passes-requires-clause-rule c = tells _ _
