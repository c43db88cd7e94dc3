use Rattle.mama_log_line.specs.Entering.{MayOrder}
use Rattle.mama_record.specs.LogText.{given_text}
use Rattle.mama_log_read.proofs.Taking.{so_far_with_line}
use Rattle.mama_log_read.proofs.calls.read_orders.Goals as goal

pub orders-preserved : goal.orders-preserved
orders-preserved c =
    so_far_with_line (MayOrder c.args.names.now) given_text c.args.text.now c.orders.orders c.push.new.self c.in-Ok-Some.order c.orders.rest.now c.in-Ok-Some.after.now c.orders.invariant
    (rw c.in-Ok-Some.field-0-is at c.in-Ok-Some.ensures) c.in-Ok.ensures.ok
