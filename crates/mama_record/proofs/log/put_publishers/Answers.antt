use Rattle.std.proofs.Common.{arith, length, ◌<◌}
use Rattle.mama_record.specs.LogText.{publisher_section}
use Rattle.mama_record.specs.SectionText.{section_text}
use Rattle.mama_record.proofs.Printed.{printed_section}
use Rattle.mama_record.proofs.log.put_publishers.Goals as goal

pub loop-number-preserved : goal.loop-number-preserved
loop-number-preserved c =
    let within : c.loop-number.number < length c.args.publishers.now = omega arith in
    printed_section (section_text c.args.version) publisher_section (λ v. v.items) c.args.out.now.items c.loop-number.out.items c.put_publisher.new.out.items c.args.publishers.now c.loop-number.number
    c.index-publishers-number.result within c.index-publishers-number.is c.in_ok-put_publisher.ensures c.loop-number.invariant
