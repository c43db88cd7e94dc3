use Rattle.std.proofs.Common.{◌≡◌, ◌++◌, take, map}
use Rattle.std.specs.List.{flat_map}
use Rattle.mama_record.specs.LogText.{group_section}
use Rattle.mama_record.specs.SectionText.{section_text}
use Rattle.mama_record.specs.RunView.{groups_of}
use Rattle.mama_record.proofs.log.put_groups.Given as goal

abbrev pub invariant-loop-group : goal.invariant-loop-group
invariant-loop-group l = l.out.items ≡ l.fn.out.items ++ flat_map (section_text l.version) (map group_section (groups_of (take l.group-index l.groups)))
