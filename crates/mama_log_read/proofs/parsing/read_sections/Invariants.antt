use Rattle.std.proofs.Common.{take}
use Rattle.mama_log_read.specs.Reading.{AreRead}
use Rattle.mama_log_read.proofs.parsing.read_sections.Given as goal

abbrev pub invariant-loop-section : goal.invariant-loop-section
invariant-loop-section l = AreRead l.fn.version l.names l.objects (take l.section-index l.sections) l.fn.text l.built l.rest
