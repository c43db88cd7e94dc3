use Rattle.std.proofs.Common.{map}
use Rattle.std.specs.List.{flat_map, range_with_len}
use Rattle.mama_script.specs.Tree.{topic_line, publisher_lines, client_lines}
use Rattle.mama_gen.specs.Generated.{topic_name, publisher, client, script_of_seed}
use Rattle.mama_gen.proofs.Each.{made, behind}
use Rattle.mama_gen.proofs.Written.{whole_text}
use Rattle.mama_gen.proofs.text.generated.Goals as goal

pub returns : goal.returns
unfolding script_of_seed
returns c =
    let seed = c.args.seed in
    rw (c.in_ok-put_clients.ensures.text, c.in_ok-put_publishers.ensures.text, c.in_ok-put_publishers.ensures.state, c.in_ok-put_topics.ensures, c.in_ok-extend_from_slice.ensures.items, c.new-out.ensures.items, c.new-draws.ensures)
    (whole_text (map topic_line (map topic_name (range_with_len 0 16))) (flat_map publisher_lines (made publisher 16 seed)) (flat_map client_lines (made (λ n. client) 4 (behind publisher 16 seed))))
