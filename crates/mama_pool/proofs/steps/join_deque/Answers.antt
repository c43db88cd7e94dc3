use Rattle.mama_pool.proofs.Kept.{joins}
use Rattle.mama_pool.proofs.steps.join_deque.Goals as goal

pub absorb-requires-clause-rule : goal.absorb-requires-clause-rule
absorb-requires-clause-rule g c = joins g.D.Numbered.numbered _ _ _ _ c.requires.home
