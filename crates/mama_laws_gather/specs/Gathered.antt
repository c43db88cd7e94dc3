-- believed: when what was taken begins what was put, when all that take have ended, and that a record is legal then.
use Rattle.std.specs.Prelude.{◌≡◌, ℕ, ◌<◌, ◌≤◌, true, [], length, slice_index_or}
use Rattle.std.specs.List.{list_any}
use Rattle.mama_journal.specs.Lane.{by_port, IsEdge}
use Rattle.mama_event.specs.Ports.{queues_of, bridge_port_of_queue, timers_port_of_queue, queue_port_of_timers}
use Rattle.mama_event.specs.ToBridge as bridge
use Rattle.mama_event.specs.ToPublisher as publisher
use Rattle.mama_event.specs.ToTimers as timers
use Rattle.mama_event.specs.ToQueue as queue
use Rattle.mama_rules_services.specs.Ports.{bridge_putter, timers_putter, queue_putter}
use Rattle.mama_script.specs.Script.{ScriptData}
use Rattle.mama_record.specs.RunData.{RunData}
use Rattle.mama_rules_rounds.specs.Sections.{setting_of}
use Rattle.mama_rules_legal.specs.Edges.{client_puts, put_on_bridge, put_on_timers, put_to_publisher, put_on_queue, taken_by}
use Rattle.mama_rules_legal.specs.Lines.{AreLines}
use Rattle.mama_rules_legal.specs.Calls.{IsShapedFor, AreCalls, AreLists}
use Rattle.mama_rules_legal.specs.Legal.{IsLegal}
use Rattle.mama_laws_legal.specs.Laws.{IsOrderly}

-- On every edge what was taken begins what was put, and is all of it where its last event was taken.
pub record AreGathered (script : ScriptData) (run : RunData) : Type 0 where
  pub bridge : (port : ℕ) → IsEdge bridge.is_last (by_port port run.bridge)
      (put_on_bridge (setting_of script) (client_puts script run.clients) run.publishers run.queues (bridge_putter script.shape port))
  pub timers : (port : ℕ) → IsEdge timers.is_last (by_port port run.timers)
      (put_on_timers (setting_of script) (client_puts script run.clients) run.queues run.bridge (timers_putter script.shape port))
  pub publishers : (p : ℕ) → p < length script.publishers → IsEdge publisher.is_last (taken_by (slice_index_or run.publishers p [])) (put_to_publisher script.shape run.bridge p)
  pub queues : (q : ℕ) → q < queues_of script.shape → (port : ℕ) → IsEdge queue.is_last (by_port port (slice_index_or run.queues q []))
      (put_on_queue script.shape run.bridge run.timers q (queue_putter port))

-- Every actor that takes has ended: a publisher took its Fin, a queue the Fins of both its ports, and the bridge and the
-- timer service each queue's Bye.
pub record HaveEnded (script : ScriptData) (run : RunData) : Type 0 where
  pub publishers : (p : ℕ) → p < length script.publishers → list_any publisher.is_last (taken_by (slice_index_or run.publishers p [])) ≡ true
  pub queues : (q : ℕ) → q < queues_of script.shape → (port : ℕ) → port ≤ queue_port_of_timers → list_any queue.is_last (by_port port (slice_index_or run.queues q [])) ≡ true
  pub bridge : (q : ℕ) → q < queues_of script.shape → list_any bridge.is_last (by_port (bridge_port_of_queue script.shape q) run.bridge) ≡ true
  pub timers : (q : ℕ) → q < queues_of script.shape → list_any timers.is_last (by_port (timers_port_of_queue script.shape q) run.timers) ≡ true

-- Whichever thread ran what when: where what was taken begins what was put, and all that take have ended, a record of which
-- every line was done, and whose callbacks, images and lists are those of its journals, is legal.
abbrev pub GatheredIsLegal : Type 0
GatheredIsLegal = (script : ScriptData) (run : RunData) → IsOrderly script → IsShapedFor script run → AreLines script run → AreGathered script run → HaveEnded script run → AreCalls script run → AreLists script run
    → IsLegal script run
