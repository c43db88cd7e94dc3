use Rattle.std.proofs.Common.{◌≡◌, ◌++◌, take}
use Rattle.std.specs.List.{flat_map}
use Rattle.mama_record.specs.LogText.{image_line}
use Rattle.mama_record.specs.RunView.{images_of}
use Rattle.mama_record.proofs.log.put_image_lines.Given as goal

abbrev pub invariant-loop-image : goal.invariant-loop-image
invariant-loop-image l = l.out.items ≡ l.fn.out.items ++ flat_map image_line (images_of (take l.image-index l.images))
