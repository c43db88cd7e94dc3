-- believed: That a bridge and a timer service which are over took each queue's last event by its port.
use Rattle.std.specs.Prelude.{◌≡◌, ℕ, ◌<◌, true, List}
use Rattle.std.specs.List.{list_any}
use Rattle.mama_journal.specs.Lane.{by_port}
use Rattle.mama_event.specs.declared.shape.Shape.{Shape}
use Rattle.mama_event.specs.declared.to_bridge.BridgeNote.{BridgeNote}
use Rattle.mama_event.specs.declared.to_timers.TimersNote.{TimersNote}
use Rattle.mama_event.specs.Ports.{queues_of, bridge_port_of_queue, timers_port_of_queue}
use Rattle.mama_event.specs.ToBridge as to_bridge
use Rattle.mama_event.specs.ToTimers as to_timers
use Rattle.mama_posts_services.specs.Bridge as bridge
use Rattle.mama_posts_services.specs.Timers as timers

abbrev pub BridgesEndByByes : Type 0
BridgesEndByByes = (shape : Shape) (journal : List (ℕ × BridgeNote)) → bridge.is_over shape journal ≡ true → (q : ℕ) → q < queues_of shape
    → list_any to_bridge.is_last (by_port (bridge_port_of_queue shape q) journal) ≡ true

abbrev pub TimersEndByByes : Type 0
TimersEndByByes = (shape : Shape) (journal : List (ℕ × TimersNote)) → timers.is_over shape journal ≡ true → (q : ℕ) → q < queues_of shape
    → list_any to_timers.is_last (by_port (timers_port_of_queue shape q) journal) ≡ true
