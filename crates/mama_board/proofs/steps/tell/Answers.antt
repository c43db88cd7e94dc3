use Rattle.std.proofs.Common.{rules}
use Rattle.mama_board.proofs.Kept.{tells, learns}
use Rattle.mama_board.proofs.steps.tell.Goals as goal

pub tell-requires : goal.tell-requires
tell-requires g c = tells _ _

pub learn-requires : goal.learn-requires
learn-requires g c = record { own = search rules; rule = learns _ _ _ _ }
