use Rattle.mama_log_read.specs.declared.section.Section.TheVariants.{Group}
use Rattle.mama_log_read.proofs.Sections.{numbers_more}
use Rattle.mama_log_read.proofs.section.add_groups.Goals as goal

pub loop-number-preserved : goal.loop-number-preserved
loop-number-preserved c = numbers_more Group c.args.sections.now.items c.loop-number.sections.items c.push.new.self.items c.loop-number.number c.in_ok-push.ensures.items c.loop-number.invariant
