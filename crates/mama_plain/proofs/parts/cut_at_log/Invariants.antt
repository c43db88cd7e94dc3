use Rattle.std.proofs.Common.{length}
use Rattle.mama_plain.proofs.PartLemmas.{Reached}
use Rattle.mama_plain.proofs.parts.cut_at_log.Given as goal

abbrev pub invariant-loop-line : goal.invariant-loop-line
invariant-loop-line l = Reached l.fn.text l.rest

abbrev pub decreases-loop-line : goal.decreases-loop-line
decreases-loop-line l = length l.rest
