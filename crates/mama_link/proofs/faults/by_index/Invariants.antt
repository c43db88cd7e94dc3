use Rattle.std.proofs.Common.{◌≡◌, ℕ, take, drop}
use Rattle.std.specs.Ordering.{nat_cmp}
use Rattle.std.specs.BTreeMap.{get, IsOrdered}
use Rattle.mama_link.specs.Faults.{fault_at, first_fault, first_fault_after}
use Rattle.mama_link.specs.Table.{table_of, table_from}
use Rattle.mama_link.proofs.faults.by_index.Given as goal

abbrev pub invariant-loop-row : goal.invariant-loop-row
invariant-loop-row l = record {
  entries : table_from l.table.entries (drop l.row-index l.rows) ≡ table_of l.rows;
  found : (i : ℕ) → get nat_cmp l.table i ≡ fault_at (take l.row-index l.rows) i;
  ordered : IsOrdered nat_cmp l.table;
  sound : first_fault_after (take l.row-index l.rows) (drop l.row-index l.rows) ≡ first_fault l.rows;
}
