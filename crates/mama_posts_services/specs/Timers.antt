-- believed: What the seat of the timer service keeps.
use Rattle.std.specs.Prelude.{ℕ, ◌+◌, Bool, List}
use Rattle.mama_journal.specs.Lane.{by_port}
use Rattle.mama_event.specs.declared.shape.Shape.{Shape}
use Rattle.mama_event.specs.declared.shape.Bounds.{Bounds}
use Rattle.mama_event.specs.declared.to_queue.QueueNote.{QueueNote}
use Rattle.mama_event.specs.declared.to_timers.TimersNote.{TimersNote}
use Rattle.mama_event.specs.Lawful.{IsLawful}
use Rattle.mama_event.specs.ToTimers.{is_last, fits}
use Rattle.mama_event.specs.Ports.{queues_of, timers_port_of_bridge, queue_port_of_timers}
use Rattle.mama_rules_services.specs.Timers.{heard, timers_puts}
use Rattle.mama_timer.specs.Service.{every_bye}
use Rattle.mama_lane.specs.Values.{PortValue}
use Rattle.mama_posts_services.specs.Ports.{ArePutting}
use Rattle.mama_posts_services.specs.Service.{ServiceValue, IsTaking}

-- the timer service, and its port on the lane of each queue
pub record TimersPostValue : Type 0 where
  pub service : ServiceValue TimersNote (ℕ × QueueNote)
  pub queues : List (PortValue QueueNote)

-- the ports of the service's lane: those of clients and of queues, and the bridge's
abbrev pub timers_ports : Shape → ℕ
timers_ports shape = timers_port_of_bridge shape + 1

-- every queue's Bye was taken
abbrev pub is_over : Shape → List (ℕ × TimersNote) → Bool
is_over shape journal = every_bye shape (heard shape journal)

abbrev pub MayCome : Bounds → ℕ → List TimersNote → Type 0
MayCome bounds port = IsLawful is_last (fits bounds)

-- The seat of the timer service of a shape. On each lane what was put, and then what is left for it, is the part of all that
-- a service of this shape puts by its journal.
pub record IsTimersOf (shape : Shape) (post : TimersPostValue) : Type 0 where
  pub takes : IsTaking shape (timers_ports shape) MayCome (is_over shape) post.service
  pub puts : ArePutting shape.bounds queue_port_of_timers (queues_of shape) (λ q. by_port q post.service.left) (λ q. by_port q (timers_puts shape post.service.journal)) post.queues
