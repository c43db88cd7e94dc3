use Rattle.std.proofs.Common.{sym, ◌∙◌}
use Rattle.mama_log_line.specs.Entering.{MayOrder}
use Rattle.mama_record.specs.LogText.{given_text}
use Rattle.mama_log_read.proofs.Spelled.{plain_order}
use Rattle.mama_log_read.proofs.Taking.{some_next, none_next, next_uncut}
use Rattle.mama_log_read.proofs.Orders.{no_order_here}
use Rattle.mama_log_read.proofs.calls.next_order.Goals as goal

pub returns-in-Some-2 : goal.returns-in-Some-2
returns-in-Some-2 c =
    some_next (MayOrder c.args.names.now) given_text c.args.text.now c.in-Some.line.now c.in-Some.after.now c.in_ok-order-in-Some.field-0 c.in-Some-2.order c.in-Some.ensures c.in-Some-2.is c.in_ok-order-in-Some.ensures.found

pub returns-in-None-2 : goal.returns-in-None-2
returns-in-None-2 c =
    none_next (MayOrder c.args.names.now) given_text (plain_order c.args.names.now) c.args.text.now c.in-Some.line.now c.in-Some.after.now c.in_ok-order-in-Some.field-0 c.in-Some.ensures c.in-None-2.is c.in_ok-order-in-Some.ensures.again

pub returns-in-None : goal.returns-in-None
returns-in-None c = next_uncut (MayOrder c.args.names.now) given_text (plain_order c.args.names.now) c.args.text.now c.in-None.ensures

pub returns-then-not-may_be_order : goal.returns-then-not-may_be_order
returns-then-not-may_be_order c = λ order more may same. no_order_here c.args.text.now order more (sym c.may_be_order.ensures ∙ c.if-not-may_be_order.true) same
