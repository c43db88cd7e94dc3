use Rattle.mama_shown.specs.Crew.{IsCrew}
use Rattle.mama_tests_crew.proofs.shown.turn_out.Given as goal

abbrev pub invariant-loop : goal.invariant-loop
invariant-loop g l = IsCrew l.script l.hall l.seats.items
