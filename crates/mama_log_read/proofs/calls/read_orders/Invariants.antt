use Rattle.std.proofs.Common.{length}
use Rattle.mama_log_line.specs.Entering.{MayOrder}
use Rattle.mama_record.specs.LogText.{given_text}
use Rattle.mama_log_read.proofs.Taking.{SoFar}
use Rattle.mama_log_read.proofs.calls.read_orders.Given as goal

abbrev pub invariant-orders : goal.invariant-orders
invariant-orders l = SoFar (MayOrder l.names) given_text l.fn.text l.orders l.rest

abbrev pub decreases-orders : goal.decreases-orders
decreases-orders l = length l.rest
