use Rattle.std.proofs.Common.{◌≡◌, ◌++◌}
use Rattle.mama_log_read.specs.Section.{numbered_from}
use Rattle.mama_log_read.specs.declared.section.Section.TheVariants.{Watch}
use Rattle.mama_log_read.proofs.section.add_watches.Given as goal

abbrev pub invariant-loop-number : goal.invariant-loop-number
invariant-loop-number l = l.sections.items ≡ l.fn.sections.items ++ numbered_from Watch 0 l.number
