use Rattle.mama_log_read.specs.declared.section.Section.TheVariants.{Watch}
use Rattle.mama_log_read.proofs.Sections.{numbers_more}
use Rattle.mama_log_read.proofs.section.add_watches.Goals as goal

pub loop-number-preserved : goal.loop-number-preserved
loop-number-preserved c = numbers_more Watch c.args.sections.now.items c.loop-number.sections.items c.push.new.self.items c.loop-number.number c.in_ok-push.ensures.items c.loop-number.invariant
