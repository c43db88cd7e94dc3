use Rattle.std.proofs.Common.{rules}
use Rattle.mama_pool.proofs.Tallies.{reads, adds}
use Rattle.mama_pool.proofs.steps.try_count.Goals as goal

pub read_words-seen-requires-clause-rule : goal.read_words-seen-requires-clause-rule
read_words-seen-requires-clause-rule g c = reads _ _

pub exchange_words-requires-clause-rule : goal.exchange_words-requires-clause-rule
exchange_words-requires-clause-rule g c = adds _ _ _ _ (search rules) (search rules) (search rules)
