use Rattle.mama_board.proofs.Kept.{admits}
use Rattle.mama_board.proofs.steps.await_place.Goals as goal

pub reader-requires : goal.reader-requires
reader-requires g c = admits
