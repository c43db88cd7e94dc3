-- believed: What the seat of the bridge keeps.
use Rattle.std.specs.Prelude.{◌≡◌, ℕ, Bool, List, map}
use Rattle.std.specs.List.{flat_map}
use Rattle.mama_event.specs.declared.shape.Shape.{Shape}
use Rattle.mama_event.specs.declared.shape.Bounds.{Bounds}
use Rattle.mama_event.specs.declared.to_bridge.BridgeNote.{BridgeNote}
use Rattle.mama_event.specs.declared.to_publisher.PublisherNote.{PublisherNote}
use Rattle.mama_event.specs.declared.to_queue.QueueNote.{QueueNote}
use Rattle.mama_event.specs.declared.to_timers.TimersNote.{TimersNote}
use Rattle.mama_event.specs.Lawful.{IsLawful}
use Rattle.mama_event.specs.ToBridge.{is_last, fits}
use Rattle.mama_event.specs.Ports.{publishers_of, queues_of, bridge_ports, timers_port_of_bridge, queue_port_of_bridge}
use Rattle.mama_rules_services.specs.Bridge.{BridgePut, heard, bridge_puts}
use Rattle.mama_laws_bridge.specs.Byes.{all_left}
use Rattle.mama_rules_rounds.specs.Setting.{publisher_part, queue_part, timer_part}
use Rattle.mama_rules_legal.specs.Edges.{put_to_publisher}
use Rattle.mama_lane.specs.Values.{PortValue}
use Rattle.mama_posts_services.specs.Ports.{place_of, IsPutting, ArePutting}
use Rattle.mama_posts_services.specs.Service.{ServiceValue, IsTaking}

-- the bridge's ports: one on the lane of each publisher and of each queue, and one on that of the timer service
pub record BridgePortsValue : Type 0 where
  pub publishers : List (PortValue PublisherNote)
  pub queues : List (PortValue QueueNote)
  pub timers : PortValue TimersNote

pub record BridgePostValue : Type 0 where
  pub service : ServiceValue BridgeNote BridgePut
  pub ports : BridgePortsValue

-- every queue's Bye was taken
abbrev pub is_over : Shape → List (ℕ × BridgeNote) → Bool
is_over shape journal = all_left shape (heard shape journal)

abbrev pub MayCome : Bounds → ℕ → List BridgeNote → Type 0
MayCome bounds port = IsLawful is_last (fits bounds)

-- On each lane what was put, and then what is left for it, is the part of all that a bridge of this shape puts by its journal.
pub record ArePortsOf (shape : Shape) (journal : List (ℕ × BridgeNote)) (left : List BridgePut) (ports : BridgePortsValue) : Type 0 where
  pub publishers : ArePutting shape.bounds 0 (publishers_of shape) (λ p. flat_map (publisher_part p) left) (λ p. put_to_publisher shape journal p) ports.publishers
  pub queues : ArePutting shape.bounds queue_port_of_bridge (queues_of shape) (λ q. flat_map (queue_part q) left) (λ q. flat_map (queue_part q) (bridge_puts shape journal)) ports.queues
  pub timers : IsPutting shape.bounds (timers_port_of_bridge shape) (flat_map timer_part left) (flat_map timer_part (bridge_puts shape journal)) ports.timers

-- the seat of the bridge of a shape
pub record IsBridgeOf (shape : Shape) (post : BridgePostValue) : Type 0 where
  pub takes : IsTaking shape (bridge_ports shape) MayCome (is_over shape) post.service
  pub puts : ArePortsOf shape post.service.journal post.service.left post.ports

-- the same ports of the same lanes, whatever they have put
pub record StayPlaced (old new : BridgePortsValue) : Type 0 where
  pub publishers : map place_of new.publishers ≡ map place_of old.publishers
  pub queues : map place_of new.queues ≡ map place_of old.queues
  pub timers : new.timers ≡ record old.timers { put = new.timers.put }
