use Rattle.std.proofs.Common.{refl}
use Rattle.mama_board.proofs.steps.show.Goals as goal

pub publish-requires : goal.publish-requires
publish-requires g c = record { whole = c.requires.whole; unsealed = c.requires.unsealed; sets_are = refl; sealed_is = refl }
