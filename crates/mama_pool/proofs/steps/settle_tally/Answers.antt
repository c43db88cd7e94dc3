use Rattle.mama_pool.proofs.Tallies.{settles}
use Rattle.mama_pool.proofs.steps.settle_tally.Goals as goal

pub read_words-counts-requires-clause-rule : goal.read_words-counts-requires-clause-rule
read_words-counts-requires-clause-rule g c = settles _ _ c.requires.whole
