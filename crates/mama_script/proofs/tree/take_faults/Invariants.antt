use Rattle.std.proofs.Common.{◌≡◌, ◌++◌, None, map, length}
use Rattle.mama_link.specs.Faults.{first_fault}
use Rattle.mama_script.specs.declared.head.Place.TheVariants as places
use Rattle.mama_script.specs.Tree.{fault_line}
use Rattle.mama_script.specs.Standing.{Stand}
use Rattle.mama_script.proofs.tree.take_faults.Given as goal

abbrev pub invariant-loop-line : goal.invariant-loop-line
invariant-loop-line l = record {
  lines : l.fn.lines.items ≡ map fault_line l.rows.items ++ l.lines.items;
  sound : first_fault l.rows.items ≡ None;
  stand : Stand places.Linked l.rows.items l.lines.items;
}

abbrev pub decreases-loop-line : goal.decreases-loop-line
decreases-loop-line l = length l.lines.items
