use Rattle.std.proofs.Common.{◌≡◌, ◌++◌, take, map}
use Rattle.std.specs.List.{flat_map}
use Rattle.mama_record.specs.LogText.{object_section}
use Rattle.mama_record.specs.SectionText.{section_text}
use Rattle.mama_record.specs.RunView.{calls_of}
use Rattle.mama_record.proofs.log.put_objects.Given as goal

abbrev pub invariant-loop-object : goal.invariant-loop-object
invariant-loop-object l = l.out.items ≡ l.fn.out.items ++ flat_map (section_text l.version) (map object_section (calls_of (take l.object-index l.objects)))
