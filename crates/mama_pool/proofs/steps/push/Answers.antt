use Rattle.mama_pool.proofs.Kept.{pushes}
use Rattle.mama_pool.proofs.steps.push.Goals as goal

pub push_as-requires-clause-pushes : goal.push_as-requires-clause-pushes
push_as-requires-clause-pushes g c = pushes g.D.Numbered.numbered _ _ _ c.requires
