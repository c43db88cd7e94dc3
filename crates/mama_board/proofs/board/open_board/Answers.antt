use Rattle.std.proofs.Common.{sym, subst, [], ◌∷◌}
use Rattle.mama_board.specs.Images.{ImagesValue}
use Rattle.mama_board.specs.Rule.{IsKept, newcomer}
use Rattle.mama_board.proofs.Kept.{begins, admits}
use Rattle.mama_board.proofs.board.open_board.Goals as goal

pub new-requires-3-clause-rule : goal.new-requires-3-clause-rule
new-requires-3-clause-rule g c = subst (λ (images : ImagesValue). IsKept images (newcomer ∷ [])) (sym c.new.ensures) begins

pub reader-requires : goal.reader-requires
reader-requires g c = admits
