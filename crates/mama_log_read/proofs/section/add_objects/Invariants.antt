use Rattle.std.proofs.Common.{◌≡◌, ◌++◌, map, take}
use Rattle.mama_log_read.specs.declared.section.Section.TheVariants.{Object}
use Rattle.mama_log_read.proofs.section.add_objects.Given as goal

abbrev pub invariant-loop-object : goal.invariant-loop-object
invariant-loop-object l = l.sections.items ≡ l.fn.sections.items ++ map Object (take l.object-index l.objects)
