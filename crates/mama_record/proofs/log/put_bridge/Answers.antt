use Rattle.std.proofs.Common.{length, refl}
use Rattle.std.specs.Prelude.{codes}
use Rattle.std.proofs.lemmas.Result.{on_ok_weaker}
use Rattle.mama_record.specs.LogText.{bridge_entry_text}
use Rattle.mama_record.proofs.Sections.{section_printed}
use Rattle.mama_record.proofs.log.put_bridge.Goals as goal

pub returns : goal.returns
returns c =
    on_ok_weaker _ (section_printed c.args.version (codes "bridge") (bridge_entry_text c.args.shape.now) c.args.entries.now (length c.args.entries.now) c.args.out.now.items c.put_word.new.out.items c.put_bridge_entries.new.out.items
    refl c.in_ok-put_word.ensures) c.put_bridge_entries.ensures
