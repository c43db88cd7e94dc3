use Rattle.std.proofs.Common.{◌≡◌, map, take}
use Rattle.mama_journal.specs.Journal.{numbers_below}
use Rattle.mama_script.specs.Tree.{first_sender, topic_of_part}
use Rattle.mama_script.proofs.tree.first_senders.Given as goal

abbrev pub invariant-loop-number : goal.invariant-loop-number
invariant-loop-number l = l.first.items ≡ map (λ t. first_sender t 1 (map topic_of_part (take l.number l.publishers))) (numbers_below l.fn.topics)
