-- inner: One event more by one port of many.
use Rattle.std.specs.Prelude.{◌≡◌, ℕ, zero, suc, List, [], ◌∷◌, ◌++◌, Some}
use Rattle.std.specs.List.{slice_get}
use Rattle.mama_event.specs.declared.shape.Bounds.{Bounds}
use Rattle.mama_event.specs.Lawful.{IsLawful}
use Rattle.mama_event.specs.ToPublisher as publisher
use Rattle.mama_event.specs.ToQueue as queue
use Rattle.mama_event.specs.ToTimers as timers
use Rattle.mama_rules_services.specs.Bridge.{BridgePut, to_publisher, to_queue, to_timers}
use Rattle.mama_lane.specs.Values.{PortValue, after_put}
use Rattle.mama_posts_services.specs.Bridge.{BridgePortsValue}

-- some ports after the one of an index put one event more, if it is there
abbrev pub with_put : {N : Type 0} → ℕ → N → List (PortValue N) → List (PortValue N)
with_put k note [] = []
with_put zero note (port ∷ ports) = after_put port note ∷ ports
with_put (suc k) note (port ∷ ports) = port ∷ with_put k note ports

-- the port of an index, if it is there, may put one event more
abbrev pub MayPut : {N : Type 0} → (Bounds → ℕ → List N → Type 0) → ℕ → N → List (PortValue N) → Type 0
MayPut {N} lawful k note ports = (port : PortValue N) → slice_get ports k ≡ Some port → lawful port.bounds port.number (port.put ++ note ∷ [])

-- the ports after one put: an event to an actor that is not there is dropped
abbrev pub laid : BridgePut → BridgePortsValue → BridgePortsValue
laid (to_publisher p note) ports = record ports { publishers = with_put p note ports.publishers }
laid (to_queue q note) ports = record ports { queues = with_put q note ports.queues }
laid (to_timers note) ports = record ports { timers = after_put ports.timers note }

-- one put may be made
abbrev pub MayLay : BridgePut → BridgePortsValue → Type 0
MayLay (to_publisher p note) ports = MayPut (λ bounds port. IsLawful publisher.is_last publisher.fits) p note ports.publishers
MayLay (to_queue q note) ports = MayPut (λ bounds port. IsLawful queue.is_last (queue.fits port)) q note ports.queues
MayLay (to_timers note) ports = IsLawful timers.is_last (timers.fits ports.timers.bounds) (after_put ports.timers note).put
