use Rattle.mama_board.proofs.Kept.{enters}
use Rattle.mama_board.proofs.steps.look_image.Goals as goal

pub enter_as-requires : goal.enter_as-requires
enter_as-requires c = enters _ _
