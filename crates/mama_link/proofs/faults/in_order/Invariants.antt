use Rattle.std.proofs.Common.{◌≡◌, ◌++◌}
use Rattle.mama_link.proofs.faults.in_order.Given as goal

abbrev pub invariant-loop-index : goal.invariant-loop-index
invariant-loop-index l = l.table.items ++ l.index-iterator ≡ l.by_index.entries
