use Rattle.std.proofs.Common.{◌≡◌, ◌++◌, [], map, length}
use Rattle.mama_script.specs.declared.head.Place.TheVariants as places
use Rattle.mama_script.specs.Tree.{publisher_line}
use Rattle.mama_script.specs.Standing.{Stand}
use Rattle.mama_script.proofs.tree.take_sends.Given as goal

abbrev pub invariant-loop-line : goal.invariant-loop-line
invariant-loop-line l = record {
  lines : l.fn.lines.items ≡ map publisher_line l.sends.items ++ l.lines.items;
  stand : Stand places.Publisher [] l.lines.items;
}

abbrev pub decreases-loop-line : goal.decreases-loop-line
decreases-loop-line l = length l.lines.items
