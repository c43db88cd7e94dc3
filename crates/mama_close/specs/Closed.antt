-- inner: What the closing of all lanes of a crew tells.
use Rattle.std.specs.List.{All, AllZip}
use Rattle.mama_event.specs.ToBridge as bridge
use Rattle.mama_event.specs.ToTimers as timers
use Rattle.mama_event.specs.ToPublisher as publisher
use Rattle.mama_event.specs.ToQueue as queue
use Rattle.mama_gather.specs.Edge.{IsEdgeOf}
use Rattle.mama_close.specs.Kinds.{Kinds}

-- Of each port of each lane, what was taken begins what was put, and is all of it where the last event was taken.
pub record AreClosed (kinds : Kinds) : Type 0 where
  pub clients_bridge : All (λ s. IsEdgeOf bridge.is_last kinds.bridge.service.inlet.taker s.1.post.ports.to_bridge) kinds.clients
  pub publishers_bridge : All (λ s. IsEdgeOf bridge.is_last kinds.bridge.service.inlet.taker s.1.port) kinds.publishers
  pub queues_bridge : All (λ s. IsEdgeOf bridge.is_last kinds.bridge.service.inlet.taker s.1.ports.to_bridge) kinds.queues
  pub clients_timers : All (λ s. IsEdgeOf timers.is_last kinds.timers.service.inlet.taker s.1.post.ports.to_timers) kinds.clients
  pub queues_timers : All (λ s. IsEdgeOf timers.is_last kinds.timers.service.inlet.taker s.1.ports.to_timers) kinds.queues
  pub bridge_timers : IsEdgeOf timers.is_last kinds.timers.service.inlet.taker kinds.bridge.ports.timers
  pub publishers : AllZip (λ port s. IsEdgeOf publisher.is_last s.1.inlet.taker port) kinds.bridge.ports.publishers kinds.publishers
  pub bridge_queues : AllZip (λ port s. IsEdgeOf queue.is_last s.1.inlet.taker port) kinds.bridge.ports.queues kinds.queues
  pub timers_queues : AllZip (λ port s. IsEdgeOf queue.is_last s.1.inlet.taker port) kinds.timers.queues kinds.queues
