use Rattle.std.proofs.Common.{◌++◌, ◌∙◌}
use Rattle.std.specs.Prelude.{codes}
use Rattle.std.proofs.lemmas.Result.{on_ok_weaker}
use Rattle.mama_edge.specs.Decimal.{decimal}
use Rattle.mama_record.specs.LogText.{clock_text}
use Rattle.mama_record.proofs.Sections.{section_printed}
use Rattle.mama_record.proofs.log.put_client.Goals as goal

pub returns : goal.returns
returns c =
    let printed = rw c.as_slice.ensures.value at c.put_moments.ensures in
    on_ok_weaker _ (section_printed c.args.version (codes "client " ++ decimal c.args.number) clock_text c.args.moments.now.items c.len.result c.args.out.now.items c.put_head.new.out.items c.put_moments.new.out.items
    (c.len.ensures ∙ c.args.moments.now.ok.0) c.in_ok-put_head.ensures) printed
