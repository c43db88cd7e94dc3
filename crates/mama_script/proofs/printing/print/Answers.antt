use Rattle.std.proofs.Common.{◌∷◌, [], ◌++◌, sym, ◌∙◌}
use Rattle.std.specs.List.{flat_map}
use Rattle.mama_script.specs.declared.line.Line.TheVariants as lines
use Rattle.mama_script.specs.Line.{ended}
use Rattle.mama_script.specs.Reading.{first_line}
use Rattle.mama_script.specs.Tree.{strategy_lines}
use Rattle.mama_script.specs.Text.{topic_text, publisher_text, client_text, group_text, watch_text}
use Rattle.mama_script.proofs.Texts.{script_text_is, print_shape}
use Rattle.mama_script.proofs.printing.print.Goals as goal

pub returns : goal.returns
returns c =
    let s = c.args.script.now in
    rw (c.in_ok-put_watches.ensures, c.in_ok-put_groups.ensures, c.in_ok-put_clients.ensures, c.in_ok-put_publishers.ensures, c.in_ok-put_topics.ensures, c.in_ok-put_queues.ensures, c.in_ok-put_strategy.ensures, c.in_ok-put_first_line.ensures, c.new-out.ensures.items, c.watches.ensures, c.groups.ensures, c.clients.ensures, c.publishers.ensures, c.topics.ensures, c.shape.ensures.value, c.shape-2.ensures.value, c.version.ensures, c.version-2.ensures)
    (print_shape (first_line s.version ++ 10 ∷ []) (flat_map ended (strategy_lines s.version s.shape.strategy)) (ended (lines.Queues s.shape.bounds.queues)) (flat_map topic_text s.topics) (flat_map publisher_text s.publishers) (flat_map client_text s.clients) (flat_map group_text s.groups) (flat_map watch_text s.watches) ∙ sym (script_text_is s))
