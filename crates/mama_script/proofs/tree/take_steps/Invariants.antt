use Rattle.std.proofs.Common.{◌≡◌, ◌++◌, [], length}
use Rattle.std.specs.List.{flat_map}
use Rattle.mama_script.specs.declared.head.Place.TheVariants as places
use Rattle.mama_script.specs.Tree.{step_lines}
use Rattle.mama_script.specs.Standing.{Stand}
use Rattle.mama_script.proofs.tree.take_steps.Given as goal

abbrev pub invariant-loop-line : goal.invariant-loop-line
invariant-loop-line l = record {
  lines : l.fn.lines.items ≡ flat_map step_lines l.steps.items ++ l.lines.items;
  stand : Stand places.Client [] l.lines.items;
}

abbrev pub decreases-loop-line : goal.decreases-loop-line
decreases-loop-line l = length l.lines.items
