use Rattle.std.proofs.Common.{length, sym}
use Rattle.std.specs.Prelude.{codes}
use Rattle.std.proofs.lemmas.List.{length-map}
use Rattle.std.proofs.lemmas.Result.{on_ok_weaker}
use Rattle.mama_record.specs.LogText.{image_text}
use Rattle.mama_record.specs.RunView.{images_of, image_in}
use Rattle.mama_record.proofs.Sections.{section_printed}
use Rattle.mama_record.proofs.log.put_images.Goals as goal

pub returns : goal.returns
returns c =
    on_ok_weaker _ (section_printed c.args.version (codes "images") image_text (images_of c.args.images.now) (length c.args.images.now) c.args.out.now.items c.put_word.new.out.items c.put_image_lines.new.out.items
    (sym (length-map c.args.images.now image_in)) c.in_ok-put_word.ensures) c.put_image_lines.ensures
