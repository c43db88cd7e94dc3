use Rattle.std.proofs.Common.{sym, ◌∙◌, ◌≡◌, [], ◌∷◌, ◌++◌}
use Rattle.mama_record.specs.LogText.{order_line}
use Rattle.mama_log_line.specs.Entering.{MayOrder}
use Rattle.mama_log_line.specs.Calls.{order_line_in}
use Rattle.mama_log_line.proofs.OtherLaws.{order_line_found, order_line_again, no_order}
use Rattle.mama_log_line.proofs.LineLaws.{if_found, if_again}
use Rattle.mama_log_line.proofs.calls.order_line_in.Goals as goal

pub returns-clause-found : goal.returns-clause-found
returns-clause-found c =
    if_found (λ e. (MayOrder c.args.names.now e) × (c.args.line.now ++ 10 ∷ [] ≡ order_line e)) (order_line_in c.args.names.now c.args.line.now) c.without_fault.result (c.without_fault.ensures (order_line_in c.args.names.now c.args.line.now) c.order_line.ensures)
    (λ e is. order_line_found c.args.names.now c.args.line.now e is)

pub returns-clause-again : goal.returns-clause-again
returns-clause-again c =
    if_again (λ e. MayOrder c.args.names.now e) (λ e. c.args.line.now ++ 10 ∷ [] ≡ order_line e) (order_line_in c.args.names.now c.args.line.now) c.without_fault.result (c.without_fault.ensures (order_line_in c.args.names.now c.args.line.now) c.order_line.ensures)
    (λ e may same. order_line_again c.args.names.now c.args.line.now e may same)

pub returns-then-not-may_be_order-clause-again : goal.returns-then-not-may_be_order-clause-again
returns-then-not-may_be_order-clause-again c = λ order may same. no_order c.args.line.now order (sym c.may_be_order.ensures ∙ c.if-not-may_be_order.true) same
