use Rattle.std.proofs.Common.{◌≡◌, take}
use Rattle.mama_script.specs.Tree.{topics_in}
use Rattle.mama_script.proofs.tree.topics_in.Given as goal

abbrev pub invariant-loop-line : goal.invariant-loop-line
invariant-loop-line l = l.topics.items ≡ topics_in (take l.line-index l.lines)
