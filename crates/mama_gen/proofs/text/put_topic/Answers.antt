use Rattle.mama_gen.specs.Generated.{topic_name}
use Rattle.mama_gen.proofs.Written.{topic_text}
use Rattle.mama_gen.proofs.text.put_topic.Goals as goal

pub returns : goal.returns
returns c = rw (c.in_ok-push.ensures.items, c.in_ok-print_quoted.ensures.ok, c.in_ok-extend_from_slice.ensures.items) (topic_text c.args.out.now.items (topic_name c.args.topic))
