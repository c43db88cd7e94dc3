use Rattle.mama_shown.specs.Crew.{IsCrew}
use Rattle.mama_tests_crew.proofs.shown.round.Given as goal

abbrev pub invariant-loop-place : goal.invariant-loop-place
invariant-loop-place g l = IsCrew l.script l.hall l.seats.items
