use Rattle.mama_pool.proofs.Kept.{splits}
use Rattle.mama_pool.proofs.steps.share_deque.Goals as goal

pub another-requires : goal.another-requires
another-requires g c = splits g.D.Numbered.numbered _ _ c.requires.port c.requires.share
