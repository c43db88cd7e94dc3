use Rattle.std.proofs.Common.{◌≡◌, ◌++◌}
use Rattle.std.specs.List.{flat_map, range_with_len}
use Rattle.mama_script.specs.Line.{ended}
use Rattle.mama_script.specs.Tree.{topic_line}
use Rattle.mama_gen.specs.Generated.{topic_name}
use Rattle.mama_gen.proofs.text.put_topics.Given as goal

abbrev pub invariant-loop-topic : goal.invariant-loop-topic
invariant-loop-topic l = l.out.items ≡ l.fn.out.items ++ flat_map (λ n. ended (topic_line (topic_name n))) (range_with_len 0 l.topic)
