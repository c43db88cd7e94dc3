use Rattle.std.proofs.Common.{◌≡◌, ◌++◌}
use Rattle.mama_log_read.specs.Section.{numbered_from}
use Rattle.mama_log_read.specs.declared.section.Section.TheVariants.{Client}
use Rattle.mama_log_read.proofs.section.add_clients.Given as goal

abbrev pub invariant-loop-number : goal.invariant-loop-number
invariant-loop-number l = l.sections.items ≡ l.fn.sections.items ++ numbered_from Client 0 l.number
