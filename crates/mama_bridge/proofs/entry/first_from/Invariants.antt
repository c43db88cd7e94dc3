use Rattle.mama_bridge.specs.Linked.{IsGap}
use Rattle.mama_bridge.proofs.entry.first_from.Given as goal

abbrev pub invariant-loop-i : goal.invariant-loop-i
invariant-loop-i l = IsGap l.entries.items l.from l.i
