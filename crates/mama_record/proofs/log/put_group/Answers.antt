use Rattle.std.proofs.Common.{◌++◌, length, refl}
use Rattle.std.specs.Prelude.{codes}
use Rattle.std.proofs.lemmas.Result.{on_ok_weaker}
use Rattle.mama_edge.specs.Decimal.{decimal}
use Rattle.mama_record.specs.LogText.{group_note_text}
use Rattle.mama_record.proofs.Sections.{section_printed}
use Rattle.mama_record.proofs.log.put_group.Goals as goal

pub returns : goal.returns
returns c =
    on_ok_weaker _ (section_printed c.args.version (codes "group " ++ decimal c.args.number) group_note_text c.args.notes.now (length c.args.notes.now) c.args.out.now.items c.put_head.new.out.items c.put_group_notes.new.out.items
    refl c.in_ok-put_head.ensures) c.put_group_notes.ensures
