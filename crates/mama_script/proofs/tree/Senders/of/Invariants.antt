use Rattle.std.proofs.Common.{◌≡◌, map, take}
use Rattle.mama_script.specs.Tree.{topics_in}
use Rattle.mama_script.proofs.tree.Senders.of.Given as goal

abbrev pub invariant-loop-lines : goal.invariant-loop-lines
invariant-loop-lines l = map (λ v. v.items) l.topics.items ≡ map topics_in (take l.lines-index l.clients)
