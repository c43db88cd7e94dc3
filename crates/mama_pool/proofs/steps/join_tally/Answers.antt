use Rattle.mama_pool.proofs.Tallies.{renews, joins}
use Rattle.mama_pool.proofs.steps.join_tally.Goals as goal

pub split_passes-whole-requires-clause-rule : goal.split_passes-whole-requires-clause-rule
split_passes-whole-requires-clause-rule c = renews _ _

pub join_passes-requires-clause-rule : goal.join_passes-requires-clause-rule
join_passes-requires-clause-rule c = joins _ _ _ _
