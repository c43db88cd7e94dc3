use Rattle.std.proofs.Common.{◌++◌, ◌∙◌}
use Rattle.std.specs.Prelude.{codes}
use Rattle.std.proofs.lemmas.Result.{on_ok_weaker}
use Rattle.mama_edge.specs.Decimal.{decimal}
use Rattle.mama_record.specs.LogText.{queue_entry_text}
use Rattle.mama_record.proofs.Sections.{section_printed}
use Rattle.mama_record.proofs.log.put_queue.Goals as goal

pub returns : goal.returns
returns c =
    let printed = rw c.as_slice.ensures.value at c.put_queue_entries.ensures in
    on_ok_weaker _ (section_printed c.args.version (codes "queue " ++ decimal c.args.number) queue_entry_text c.args.journal.now.items c.len.result c.args.out.now.items c.put_head.new.out.items c.put_queue_entries.new.out.items
    (c.len.ensures ∙ c.args.journal.now.ok.0) c.in_ok-put_head.ensures) printed
