use Rattle.std.proofs.Common.{◌∙◌, ap, sym}
use Rattle.mama_dq.specs.Context.{ContextData}
use Rattle.mama_dq.proofs.CacheLemmas.{between_bound, forward_from}
use Rattle.mama_dq.proofs.StrategyLemmas.{handles_all}
use Rattle.mama_dq.proofs.context.DqContext.handle.Goals as goal

pub range-seq-items-requires : goal.range-seq-items-requires
range-seq-items-requires c = forward_from _ _ c.args.from

pub loop-seq-init : goal.loop-seq-init
loop-seq-init c =
    handles_all c.into_iter-seq-iterator.result c.args.updates.now.entries c.args.from c.self.inside.sender c.args.self.now c.args.queue.now.items
    (c.into_iter-seq-iterator.ensures.into_iter_gives ∙ c.range-seq-items.ensures.between tt ∙ between_bound c.args.from c.args.updates.now.entries)
    (ap (λ (x : ContextData). x.sender) (sym c.self.view_is))
