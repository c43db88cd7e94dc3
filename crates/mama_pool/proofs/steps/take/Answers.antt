use Rattle.mama_pool.proofs.Kept.{takes}
use Rattle.mama_pool.proofs.steps.take.Goals as goal

pub steal_as-requires-clause-takes : goal.steal_as-requires-clause-takes
steal_as-requires-clause-takes g c = takes g.D.Numbered.numbered _ _ c.loop.invariant.share
