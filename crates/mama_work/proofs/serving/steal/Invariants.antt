use Rattle.std.proofs.Common.{[]}
use Rattle.mama_work.specs.Serving.{Follows}
use Rattle.mama_work.proofs.serving.steal.Given as goal

abbrev pub invariant-loop-from : goal.invariant-loop-from
invariant-loop-from g l = Follows l.initial.hand l.hand [] []
