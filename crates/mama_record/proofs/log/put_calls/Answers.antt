use Rattle.std.proofs.Common.{arith, length, ◌<◌}
use Rattle.mama_record.proofs.Sections.{count_within}
use Rattle.mama_record.proofs.log.put_calls.Goals as goal

pub overflow_add-count-in-loop-call : goal.overflow_add-count-in-loop-call
overflow_add-count-in-loop-call c =
    let within : c.loop-call.call-index < length c.args.calls.now = omega arith in
    let few = count_within c.args.calls.now c.loop-call.call-index c.call-item.result c.loop-call.count c.args.out.now.items c.loop-call.out.items c.put_call.new.out.items within c.call-item.is c.loop-call.invariant.count c.loop-call.invariant.lines c.in_ok-put_call.ensures in
    omega (arith, few, c.len.ensures.len, c.put_call.new.out.ok.0, c.put_call.new.out.ok.1, c.put_call.new.out.small)
