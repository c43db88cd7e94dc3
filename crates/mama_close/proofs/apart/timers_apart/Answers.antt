use Rattle.std.proofs.Common.{ap, ◌∙◌}
use Rattle.mama_posts_services.specs.Timers.{TimersPostValue}
use Rattle.mama_close.proofs.apart.timers_apart.Goals as goal

pub returns : goal.returns
returns g c = record {
  taker = c.into_parts.ensures.taker ∙ ap (λ (p : TimersPostValue). p.service.inlet.taker) c.into_post.ensures;
  queues = c.into_parts.ensures.queues ∙ ap (λ (p : TimersPostValue). p.queues) c.into_post.ensures;
  journal = c.into_parts.ensures.journal ∙ ap (λ (p : TimersPostValue). p.service.journal) c.into_post.ensures;
}
