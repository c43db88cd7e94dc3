use Rattle.mama_pool.proofs.Tallies.{learns}
use Rattle.mama_pool.proofs.steps.learn.Goals as goal

pub join_passes-requires-clause-rule : goal.join_passes-requires-clause-rule
join_passes-requires-clause-rule c = learns _ _ _ _ c.requires.plain
