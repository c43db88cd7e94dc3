use Rattle.std.proofs.Common.{take}
use Rattle.mama_bridge.specs.Chart.{AreFirsts}
use Rattle.mama_bridge.proofs.chart.firsts_of.Given as goal

abbrev pub invariant-loop-number : goal.invariant-loop-number
invariant-loop-number l = AreFirsts (take l.number l.fn.topics) l.firsts
