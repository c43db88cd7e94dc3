use Rattle.std.proofs.Common.{◌∙◌}
use Rattle.mama_script.specs.Line.{ended}
use Rattle.mama_script.specs.Tree.{topic_line}
use Rattle.mama_gen.specs.Generated.{topic_name}
use Rattle.mama_gen.proofs.Each.{numbered_more}
use Rattle.mama_gen.proofs.text.put_topics.Goals as goal

pub loop-topic-preserved : goal.loop-topic-preserved
loop-topic-preserved c =
    c.in_ok-put_topic.ensures ∙ numbered_more (λ n. ended (topic_line (topic_name n))) c.loop-topic.topic c.args.out.now.items c.loop-topic.out.items c.loop-topic.invariant
