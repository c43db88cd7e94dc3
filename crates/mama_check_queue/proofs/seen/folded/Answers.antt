use Rattle.std.specs.Prelude.{Some}
use Rattle.std.proofs.Common.{[], ◌∷◌, ◌++◌, take, ap, sym, ◌∙◌}
use Rattle.std.proofs.lemmas.List.{take_more}
use Rattle.mama_event.specs.declared.market.MarketMsg.{MarketMsg}
use Rattle.mama_dq.specs.Context.{ContextData}
use Rattle.mama_dq.specs.Strategy.{after}
use Rattle.mama_rules_queue.specs.Queue.{context_of}
use Rattle.mama_dispatch.proofs.DeedLemmas.{context_more}
use Rattle.mama_check_queue.proofs.seen.folded.Goals as goal

pub loop-msg-preserved : goal.loop-msg-preserved
loop-msg-preserved c =
    let ms = c.args.messages.now in
    let i = c.loop-msg.msg-index in
    let msg = c.msg-item.result in
    c.in_ok-step.ensures.context
    ∙ ap (λ (x : ContextData). after x msg) c.loop-msg.invariant
    ∙ sym (context_more c.args.make (take i ms) msg)
    ∙ ap (context_of (Some c.args.make)) (ap (λ (x : MarketMsg). take i ms ++ x ∷ []) c.msg-item.is ∙ sym (take_more ms i msg c.loop-msg-test.true))
