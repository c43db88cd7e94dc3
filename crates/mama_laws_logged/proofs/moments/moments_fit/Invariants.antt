use Rattle.std.proofs.Common.{take}
use Rattle.mama_record.specs.RunView.{moments_of}
use Rattle.mama_laws_logged.specs.Telling.{AreMoments}
use Rattle.mama_laws_logged.proofs.moments.moments_fit.Given as goal

abbrev pub invariant-loop-moments : goal.invariant-loop-moments
invariant-loop-moments l = AreMoments (moments_of (take l.moments-index l.clients))
