use Rattle.std.proofs.Common.{arith, length, ◌<◌}
use Rattle.mama_record.specs.LogText.{queue_section}
use Rattle.mama_record.specs.SectionText.{section_text}
use Rattle.mama_record.proofs.Printed.{printed_section}
use Rattle.mama_record.proofs.log.put_queues.Goals as goal

pub loop-number-preserved : goal.loop-number-preserved
loop-number-preserved c =
    let within : c.loop-number.number < length c.args.queues.now = omega arith in
    printed_section (section_text c.args.version) queue_section (λ v. v.items) c.args.out.now.items c.loop-number.out.items c.put_queue.new.out.items c.args.queues.now c.loop-number.number
    c.index-queues-number.result within c.index-queues-number.is c.in_ok-put_queue.ensures c.loop-number.invariant
