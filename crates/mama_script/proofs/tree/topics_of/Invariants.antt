use Rattle.std.proofs.Common.{◌≡◌, map, take}
use Rattle.mama_script.specs.Tree.{topic_of_part}
use Rattle.mama_script.proofs.tree.topics_of.Given as goal

abbrev pub invariant-loop-part : goal.invariant-loop-part
invariant-loop-part l = l.topics.items ≡ map topic_of_part (take l.part-index l.publishers)
