-- The fields so far have distinct keys.
use Rattle.std.specs.Prelude.{take}
use Rattle.mama_msg.specs.Message.{AreDistinct}
use Rattle.mama_msg.proofs.distinct.are_distinct_by_scan.Given as goal

abbrev pub invariant-loop-i : goal.invariant-loop-i
invariant-loop-i l = AreDistinct (take l.i l.fields)
