use Rattle.std.proofs.Common.{drop, fold}
use Rattle.mama_board.specs.Images.{after_change, sets_in}
use Rattle.mama_board.proofs.steps.show.Given as goal

-- what is shown is what is logged
abbrev pub ghosts-publish : goal.ghosts-publish
ghosts-publish g a = let w = a.writer.now in let changes = drop w.behind w.log.items in record { sets = sets_in changes; sealed = (fold after_change w.desk.shown.value changes).sealed }
