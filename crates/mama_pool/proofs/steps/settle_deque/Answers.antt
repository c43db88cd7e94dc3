use Rattle.mama_pool.proofs.Kept.{settles}
use Rattle.mama_pool.proofs.steps.settle_deque.Goals as goal

pub len_as-left-requires : goal.len_as-left-requires
len_as-left-requires g c = settles g.D.Numbered.numbered _ _ c.requires.home c.requires.whole
