use Rattle.std.proofs.Common.{◌≡◌, ◌++◌, map, length}
use Rattle.mama_script.specs.Tree.{group_line}
use Rattle.mama_script.specs.Standing.{AreGroups}
use Rattle.mama_script.proofs.tree.take_groups.Given as goal

abbrev pub invariant-loop-line : goal.invariant-loop-line
invariant-loop-line l = record {
  lines : l.fn.lines.items ≡ map group_line l.groups.items ++ l.lines.items;
  groups : AreGroups l.lines.items;
}

abbrev pub decreases-loop-line : goal.decreases-loop-line
decreases-loop-line l = length l.lines.items
