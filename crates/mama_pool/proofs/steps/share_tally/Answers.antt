use Rattle.mama_pool.proofs.Tallies.{splits}
use Rattle.mama_pool.proofs.steps.share_tally.Goals as goal

pub split_passes-requires-clause-rule : goal.split_passes-requires-clause-rule
split_passes-requires-clause-rule c = splits _ _ c.requires.share
