use Rattle.std.proofs.Common.{◌≡◌, ◌+◌, drop}
use Rattle.mama_script.specs.Placing.{none_placed, misplaced_from}
use Rattle.mama_script.specs.Cast.{cast_in, placed_in}
use Rattle.mama_script.proofs.placing.first_misplaced.Given as goal

abbrev pub invariant-loop-i : goal.invariant-loop-i
invariant-loop-i l = misplaced_from (cast_in l.cast) (placed_in l.placed) (l.i + 2) (drop l.i l.lines) ≡ misplaced_from (cast_in l.cast) none_placed 2 l.lines
