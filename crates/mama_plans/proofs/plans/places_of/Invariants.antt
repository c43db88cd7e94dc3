use Rattle.std.specs.Prelude.{take}
use Rattle.mama_plans.specs.Places.{objects_in, ArePlaced}
use Rattle.mama_plans.proofs.plans.places_of.Given as goal

abbrev pub invariant-loop-place : goal.invariant-loop-place
invariant-loop-place l = ArePlaced l.places (objects_in (take l.place l.objects))
