use Rattle.std.proofs.Common.{◌≡◌, false}
use Rattle.mama_tests_board.proofs.boards.fill.Given as goal

abbrev pub invariant-loop-last : goal.invariant-loop-last
invariant-loop-last g l = l.board.sealed ≡ false
