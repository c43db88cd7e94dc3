use Rattle.std.specs.Prelude.{not}
use Rattle.std.specs.Result.{OnOk}
use Rattle.std.proofs.Common.{ℕ, Bool, false, ◌&&◌, [], ◌∷◌, ap, sym, ◌∙◌, subst}
use Rattle.mama_event.specs.Arrival.{code_of}
use Rattle.mama_event.specs.declared.callback.Callback.TheVariants as on
use Rattle.mama_plans.specs.Orders.{orders_in}
use Rattle.mama_check_queue.specs.Replay.{Makes}
use Rattle.mama_check_queue.proofs.MadeLemmas.{makes_muted}
use Rattle.mama_check_queue.proofs.replay.Replay.fail.Goals as goal

pub returns-then-is_muted : goal.returns-then-is_muted
returns-then-is_muted c =
    makes_muted (orders_in c.args.book.now) c.args.entry c.args.object.now (on.Error (code_of c.args.bytes.now)) c.args.self.now.objects c.args.self.now.puts
    (ap (λ (b : Bool). b && not false) (sym c.is_muted.ensures ∙ c.if-is_muted.true))

pub returns : goal.returns
returns c =
    subst (λ (n : ℕ). OnOk c.call.result (Makes (orders_in c.args.book.now) c.args.object.now (on.Error n ∷ []) c.args.entry c.args.self.now.objects c.call.new.self.objects c.args.self.now.puts c.call.new.self.puts))
    c.in_ok-code.ensures c.call.ensures
