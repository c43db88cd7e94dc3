use Rattle.std.proofs.Common.{◌≡◌, ◌++◌, length}
use Rattle.std.specs.List.{flat_map}
use Rattle.mama_script.specs.Tree.{client_lines}
use Rattle.mama_script.specs.Standing.{AreClients}
use Rattle.mama_script.proofs.tree.take_clients.Given as goal

abbrev pub invariant-loop-line : goal.invariant-loop-line
invariant-loop-line l = record {
  lines : l.fn.lines.items ≡ flat_map client_lines l.clients.items ++ l.lines.items;
  clients : AreClients l.lines.items;
}

abbrev pub decreases-loop-line : goal.decreases-loop-line
decreases-loop-line l = length l.lines.items
