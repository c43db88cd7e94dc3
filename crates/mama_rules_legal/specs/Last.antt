-- believed: every port's stream has its last event.
use Rattle.std.specs.Prelude.{◌≡◌, ℕ, ◌<◌, ◌≤◌, true, [], length, slice_index_or}
use Rattle.std.specs.List.{list_any}
use Rattle.mama_journal.specs.Lane.{by_port}
use Rattle.mama_event.specs.Ports.{queues_of, bridge_ports, timers_port_of_bridge, queue_port_of_timers}
use Rattle.mama_event.specs.ToBridge as bridge
use Rattle.mama_event.specs.ToPublisher as publisher
use Rattle.mama_event.specs.ToTimers as timers
use Rattle.mama_event.specs.ToQueue as queue
use Rattle.mama_script.specs.Script.{ScriptData}
use Rattle.mama_record.specs.RunData.{RunData}
use Rattle.mama_rules_legal.specs.Edges.{taken_by}

-- By every port of every lane the last event was taken that the port puts.
pub record HaveLast (script : ScriptData) (run : RunData) : Type 0 where
  pub bridge : (port : ℕ) → port < bridge_ports script.shape → list_any bridge.is_last (by_port port run.bridge) ≡ true
  pub timers : (port : ℕ) → port ≤ timers_port_of_bridge script.shape → list_any timers.is_last (by_port port run.timers) ≡ true
  pub publishers : (p : ℕ) → p < length script.publishers → list_any publisher.is_last (taken_by (slice_index_or run.publishers p [])) ≡ true
  pub queues : (q : ℕ) → q < queues_of script.shape → (port : ℕ) → port ≤ queue_port_of_timers
      → list_any queue.is_last (by_port port (slice_index_or run.queues q [])) ≡ true
