use Rattle.std.proofs.Common.{ap, ◌∙◌}
use Rattle.mama_posts_services.specs.Bridge.{BridgePostValue}
use Rattle.mama_close.proofs.apart.bridge_apart.Goals as goal

pub returns : goal.returns
returns g c = record {
  taker = c.into_parts.ensures.taker ∙ ap (λ (p : BridgePostValue). p.service.inlet.taker) c.into_post.ensures;
  publishers = c.into_parts.ensures.publishers ∙ ap (λ (p : BridgePostValue). p.ports.publishers) c.into_post.ensures;
  queues = c.into_parts.ensures.queues ∙ ap (λ (p : BridgePostValue). p.ports.queues) c.into_post.ensures;
  timers = c.into_parts.ensures.timers ∙ ap (λ (p : BridgePostValue). p.ports.timers) c.into_post.ensures;
  journal = c.into_parts.ensures.journal ∙ ap (λ (p : BridgePostValue). p.service.journal) c.into_post.ensures;
}
