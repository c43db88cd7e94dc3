use Rattle.mama_crew.specs.Crew.{IsCrew}
use Rattle.mama_tests_crew.proofs.turning.round.Given as goal

abbrev pub invariant-loop-place : goal.invariant-loop-place
invariant-loop-place g l = IsCrew l.script l.hall l.seats.items
