-- inner: The seats of a crew that were taken apart, and the closing of their lanes.
use Rattle.std.specs.Prelude.{◌≡◌, List, ◌∷◌, [], map}
use Rattle.std.specs.List.{All, AllZip}
use Rattle.mama_event.specs.declared.listener.Listener as listeners
use Rattle.mama_event.specs.declared.stream.Tagged as tags
use Rattle.mama_event.specs.ToBridge as bridge
use Rattle.mama_event.specs.ToTimers as timers
use Rattle.mama_event.specs.ToPublisher as publisher
use Rattle.mama_event.specs.ToQueue as queue
use Rattle.mama_record.specs.RunView.{moments_of, entries_of, events_of}
use Rattle.mama_lane.specs.Values.{LaneValue, PortValue}
use Rattle.mama_posts_services.specs.Ports.{lanes_of, ids_of}
use Rattle.mama_gather.specs.Left.{events_by}
use Rattle.mama_close.specs.Kinds.{Kinds, read_by, entries_by}
use Rattle.mama_gather.specs.Edge.{IsEdgeOf}
use Rattle.mama_close.specs.declared.apart.Apart.{Apart}

-- The ends of the lanes and the journals are those of these seats.
pub record AreParts {L : Type 0} {listener : listeners.Ghosts L} {tagged : tags.Ghosts L} (kinds : Kinds) (apart : Apart L listener tagged) : Type 0 where
  pub clients_bridge : apart.clients.to_bridge.items ≡ map (λ s. s.1.post.ports.to_bridge) kinds.clients
  pub clients_timers : apart.clients.to_timers.items ≡ map (λ s. s.1.post.ports.to_timers) kinds.clients
  pub moments : moments_of apart.clients.moments.items ≡ map read_by kinds.clients
  pub publishers_takers : apart.publishers.takers.items ≡ map (λ s. s.1.inlet.taker) kinds.publishers
  pub publishers_bridge : apart.publishers.to_bridge.items ≡ map (λ s. s.1.port) kinds.publishers
  pub entries : entries_of apart.publishers.journals.items ≡ map entries_by kinds.publishers
  pub queues_takers : apart.queues.takers.items ≡ map (λ s. s.1.inlet.taker) kinds.queues
  pub queues_bridge : apart.queues.to_bridge.items ≡ map (λ s. s.1.ports.to_bridge) kinds.queues
  pub queues_timers : apart.queues.to_timers.items ≡ map (λ s. s.1.ports.to_timers) kinds.queues
  pub events : events_of apart.queues.journals.items ≡ map events_by kinds.queues
  pub bridge_taker : apart.bridge.taker ≡ kinds.bridge.service.inlet.taker
  pub bridge_publishers : apart.bridge.publishers.items ≡ kinds.bridge.ports.publishers
  pub bridge_queues : apart.bridge.queues.items ≡ kinds.bridge.ports.queues
  pub bridge_timers : apart.bridge.timers ≡ kinds.bridge.ports.timers
  pub bridge_journal : apart.bridge.journal.items ≡ kinds.bridge.service.journal
  pub timers_taker : apart.timers.taker ≡ kinds.timers.service.inlet.taker
  pub timers_queues : apart.timers.queues.items ≡ kinds.timers.queues
  pub timers_journal : apart.timers.journal.items ≡ kinds.timers.service.journal

-- a port of this lane
abbrev pub IsOn : {N : Type 0} → LaneValue → PortValue N → Type 0
IsOn lane port = port.lane ≡ lane.id

-- The ends belong to these lanes: the bridge's, the timer service's, those of the publishers and those of the queues.
pub record BelongTo {L : Type 0} {listener : listeners.Ghosts L} {tagged : tags.Ghosts L} (to_bridge to_timers : LaneValue) (to_publishers to_queues : List LaneValue) (apart : Apart L listener tagged) : Type 0 where
  pub clients_bridge : All (IsOn to_bridge) apart.clients.to_bridge.items
  pub publishers_bridge : All (IsOn to_bridge) apart.publishers.to_bridge.items
  pub queues_bridge : All (IsOn to_bridge) apart.queues.to_bridge.items
  pub bridge_taker : apart.bridge.taker.lane ≡ to_bridge.id
  pub clients_timers : All (IsOn to_timers) apart.clients.to_timers.items
  pub queues_timers : All (IsOn to_timers) apart.queues.to_timers.items
  pub bridge_timers : IsOn to_timers apart.bridge.timers
  pub timers_taker : apart.timers.taker.lane ≡ to_timers.id
  pub bridge_publishers : lanes_of apart.bridge.publishers.items ≡ ids_of to_publishers
  pub publishers_takers : map (λ taker. taker.lane) apart.publishers.takers.items ≡ ids_of to_publishers
  pub bridge_queues : lanes_of apart.bridge.queues.items ≡ ids_of to_queues
  pub timers_queues : lanes_of apart.timers.queues.items ≡ ids_of to_queues
  pub queues_takers : map (λ taker. taker.lane) apart.queues.takers.items ≡ ids_of to_queues

-- Of each port, what was taken from it begins what it put, and is all of it where its last event was taken.
pub record AreEdgesOf {L : Type 0} {listener : listeners.Ghosts L} {tagged : tags.Ghosts L} (apart : Apart L listener tagged) : Type 0 where
  pub clients_bridge : All (IsEdgeOf bridge.is_last apart.bridge.taker) apart.clients.to_bridge.items
  pub publishers_bridge : All (IsEdgeOf bridge.is_last apart.bridge.taker) apart.publishers.to_bridge.items
  pub queues_bridge : All (IsEdgeOf bridge.is_last apart.bridge.taker) apart.queues.to_bridge.items
  pub clients_timers : All (IsEdgeOf timers.is_last apart.timers.taker) apart.clients.to_timers.items
  pub queues_timers : All (IsEdgeOf timers.is_last apart.timers.taker) apart.queues.to_timers.items
  pub bridge_timers : All (IsEdgeOf timers.is_last apart.timers.taker) (apart.bridge.timers ∷ [])
  pub publishers : AllZip (λ port taker. IsEdgeOf publisher.is_last taker port) apart.bridge.publishers.items apart.publishers.takers.items
  pub bridge_queues : AllZip (λ port taker. IsEdgeOf queue.is_last taker port) apart.bridge.queues.items apart.queues.takers.items
  pub timers_queues : AllZip (λ port taker. IsEdgeOf queue.is_last taker port) apart.timers.queues.items apart.queues.takers.items
