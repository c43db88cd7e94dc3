use Rattle.std.proofs.Common.{ℕ, List, ◌+◌, length, ap, sym, ◌∙◌}
use Rattle.std.proofs.lemmas.Result.{on_ok_weaker}
use Rattle.mama_event.specs.declared.callback.CallNote.{CallNote}
use Rattle.mama_event.specs.declared.ids.ObjectId.{ObjectId}
use Rattle.mama_event.specs.declared.order.Order.{Order}
use Rattle.mama_rules_queue.specs.Queue.{called, puts_of}
use Rattle.mama_plans.specs.Orders.{orders_in}
use Rattle.mama_check_queue.specs.Puts.{put_all}
use Rattle.mama_check_queue.proofs.MadeLemmas.{makes_muted, makes_call}
use Rattle.mama_check_queue.proofs.replay.Replay.call.Goals as goal

pub returns-then-is_left_out : goal.returns-then-is_left_out
returns-then-is_left_out c =
    makes_muted (orders_in c.args.book.now) c.args.entry c.args.object.now c.args.call c.args.self.now.objects c.args.self.now.puts
    (sym c.is_left_out.ensures ∙ c.if-is_left_out.true)

pub returns : goal.returns
returns c =
    let o = c.args.object.now in
    let orders : ObjectId → ℕ → List Order = orders_in c.args.book.now in
    on_ok_weaker c.call-2.result (λ changed.
    makes_call orders c.args.entry o c.args.call c.orders-orders.result c.args.self.now.objects c.call-2.new.self c.args.self.now.puts c.put_call.new.self
    (sym c.is_left_out.ensures ∙ c.if-is_left_out.false)
    (c.orders-orders.ensures ∙ ap (λ (cs : List CallNote). orders o (length cs + 1)) c.calls.ensures)
    (c.in_ok-put_call.ensures ∙ ap (λ (os : List Order). put_all c.args.entry (puts_of (called o c.args.call os)) c.args.self.now.puts) c.as_slice.ensures)
    changed)
    c.call-2.ensures
