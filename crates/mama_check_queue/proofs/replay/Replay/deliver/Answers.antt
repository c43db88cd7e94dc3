use Rattle.std.proofs.Common.{List, ◌++◌, ap, sym, ◌∙◌}
use Rattle.std.proofs.lemmas.Result.{on_ok_weaker}
use Rattle.mama_event.specs.declared.ids.ObjectId.TheVariants.{Sub}
use Rattle.mama_event.specs.declared.callback.Callback.{Callback}
use Rattle.mama_dq.specs.Strategy.{callbacks_of}
use Rattle.mama_plans.specs.Orders.{orders_in}
use Rattle.mama_check_queue.specs.Rows.{seen_in}
use Rattle.mama_check_queue.proofs.MadeLemmas.{serves_muted, serves_message}
use Rattle.mama_check_queue.proofs.replay.Replay.deliver.Goals as goal

pub returns-then-is_muted : goal.returns-then-is_muted
returns-then-is_muted c = λ slot.
    serves_muted (orders_in c.args.book.now) c.args.entry slot c.args.sub c.args.msg.now c.args.self.now.objects c.args.self.now.puts (sym c.is_muted.ensures ∙ c.if-is_muted.true)

pub returns : goal.returns
returns c =
    on_ok_weaker c.call_all.result (λ makes slot.
    serves_message (orders_in c.args.book.now) c.args.entry slot c.args.sub c.args.msg.now c.handle.new.calls c.args.self.now.objects c.handle.new.self c.call_all.new.self.objects c.args.self.now.puts c.call_all.new.self.puts
    (sym c.is_muted.ensures ∙ c.if-is_muted.false)
    c.in_ok-handle.ensures.seen
    (c.in_ok-handle.ensures.calls ∙ ap (λ (cs : List Callback). cs ++ callbacks_of (seen_in c.args.self.now.objects (Sub c.args.sub)).context c.args.msg.now) c.new-calls.ensures)
    makes)
    c.call_all.ensures
