use Rattle.std.proofs.Common.{arith, length, ◌<◌}
use Rattle.mama_record.specs.LogText.{order_line}
use Rattle.mama_record.proofs.Printed.{printed_at}
use Rattle.mama_record.proofs.calls.put_orders.Goals as goal

pub loop-i-preserved : goal.loop-i-preserved
loop-i-preserved c =
    let within : c.loop-i.i < length c.args.orders.now = omega arith in
    printed_at order_line c.args.out.now.items c.loop-i.out.items c.put_order_line.new.out.items c.args.orders.now c.loop-i.i
    c.at.result.now within c.at.ensures c.in_ok-put_order_line.ensures c.loop-i.invariant
