use Rattle.mama_drive.specs.Place.{GoesHearing}
use Rattle.mama_drive.proofs.serial_run.play.Given as goal

abbrev pub invariant-loop : goal.invariant-loop
invariant-loop g l = GoesHearing (g.C.Clock.left l.initial.clock) (g.C.Clock.left l.clock) l.initial.place l.initial.run l.place l.run
