-- believed: what each actor put on each lane, by its lines or its journal, and that every edge is whole.
use Rattle.std.specs.Prelude.{◌≡◌, ℕ, ◌<◌, List, [], ◌∷◌, length, slice_index_or}
use Rattle.std.specs.List.{flat_map}
use Rattle.mama_journal.specs.Journal.{puts}
use Rattle.mama_journal.specs.Lane.{by_port}
use Rattle.mama_event.specs.declared.shape.Shape.{Shape}
use Rattle.mama_event.specs.declared.to_bridge.BridgeNote.{BridgeNote}
use Rattle.mama_event.specs.declared.to_publisher.PublisherNote.{PublisherNote}
use Rattle.mama_event.specs.declared.to_timers.TimersNote.{TimersNote}
use Rattle.mama_event.specs.declared.to_queue.QueueNote.{QueueNote}
use Rattle.mama_event.specs.declared.publisher_entry.PublisherEntry.{PublisherEntry}
use Rattle.mama_event.specs.declared.publisher_entry.PublisherEntry.TheVariants.{Send, Done, Took}
use Rattle.mama_event.specs.Ports.{queues_of}
use Rattle.mama_event.specs.Publisher.{publisher_puts}
use Rattle.mama_rules_services.specs.Bridge.{bridge_puts}
use Rattle.mama_rules_services.specs.Timers.{timers_puts}
use Rattle.mama_rules_services.specs.Ports.{Putter, ByClient, ByPublisher, ByQueue, ByBridge, ByTimers, ByNobody, bridge_putter, timers_putter, queue_putter}
use Rattle.mama_rules_queue.specs.Queue.{QueuePut}
use Rattle.mama_script.specs.Script.{ScriptData}
use Rattle.mama_record.specs.RunData.{RunData}
use Rattle.mama_rules_rounds.specs.Client.{bridge_part, timers_part}
use Rattle.mama_rules_rounds.specs.Setting.{Setting, no_section, puts_on, publisher_part, queue_part, timer_part}
use Rattle.mama_rules_rounds.specs.Sections.{all_client_steps, setting_of}

-- what the steps of an actor hold, one step after another
abbrev pub all_steps : {A : Type 0} → List (List A) → List A
all_steps steps = flat_map (λ step. step) steps

-- what a client puts by its lines and by the moments that it read
abbrev pub client_puts : ScriptData → List (List ℕ) → ℕ → List QueuePut
client_puts script moments c = all_steps (slice_index_or (all_client_steps (queues_of script.shape) 0 moments script.clients) c [])

-- what the queue of a number puts by its journal, the plans and the watches
abbrev pub queue_puts : Setting → ℕ → List (ℕ × QueueNote) → List QueuePut
queue_puts setting q journal = puts (puts_on setting q) journal

-- WHAT WAS PUT ON EACH LANE, by whom, where clients tells what each client put

-- on the bridge's lane
abbrev pub put_on_bridge : Setting → (ℕ → List QueuePut) → List (List PublisherEntry) → List (List (ℕ × QueueNote)) → Putter → List BridgeNote
put_on_bridge setting clients publishers queues (ByClient c) = flat_map bridge_part (clients c)
put_on_bridge setting clients publishers queues (ByPublisher p) =
    publisher_puts (slice_index_or setting.publishers p no_section) (slice_index_or publishers p [])
put_on_bridge setting clients publishers queues (ByQueue q) = flat_map bridge_part (queue_puts setting q (slice_index_or queues q []))
put_on_bridge setting clients publishers queues ByBridge = []
put_on_bridge setting clients publishers queues ByTimers = []
put_on_bridge setting clients publishers queues ByNobody = []

-- on the timers' lane
abbrev pub put_on_timers : Setting → (ℕ → List QueuePut) → List (List (ℕ × QueueNote)) → List (ℕ × BridgeNote) → Putter → List TimersNote
put_on_timers setting clients queues bridge (ByClient c) = flat_map timers_part (clients c)
put_on_timers setting clients queues bridge (ByQueue q) = flat_map timers_part (queue_puts setting q (slice_index_or queues q []))
put_on_timers setting clients queues bridge ByBridge = flat_map timer_part (bridge_puts setting.shape bridge)
put_on_timers setting clients queues bridge (ByPublisher p) = []
put_on_timers setting clients queues bridge ByTimers = []
put_on_timers setting clients queues bridge ByNobody = []

-- to a publisher, by the bridge
abbrev pub put_to_publisher : Shape → List (ℕ × BridgeNote) → ℕ → List PublisherNote
put_to_publisher shape bridge p = flat_map (publisher_part p) (bridge_puts shape bridge)

-- on the lane of a queue
abbrev pub put_on_queue : Shape → List (ℕ × BridgeNote) → List (ℕ × TimersNote) → ℕ → Putter → List QueueNote
put_on_queue shape bridge timers q ByBridge = flat_map (queue_part q) (bridge_puts shape bridge)
put_on_queue shape bridge timers q ByTimers = by_port q (timers_puts shape timers)
put_on_queue shape bridge timers q (ByClient c) = []
put_on_queue shape bridge timers q (ByPublisher p) = []
put_on_queue shape bridge timers q (ByQueue k) = []
put_on_queue shape bridge timers q ByNobody = []

-- what an entry of a publisher took
abbrev pub taken_in : PublisherEntry → List PublisherNote
taken_in (Took note) = note ∷ []
taken_in Send = []
taken_in Done = []

-- what a publisher took by its journal
abbrev pub taken_by : List PublisherEntry → List PublisherNote
taken_by journal = flat_map taken_in journal

-- On every edge what was taken is all that was put, in order; and nothing came by a port that is no actor's.
pub record AreEdges (script : ScriptData) (run : RunData) : Type 0 where
  pub bridge : (port : ℕ) → by_port port run.bridge
      ≡ put_on_bridge (setting_of script) (client_puts script run.clients) run.publishers run.queues (bridge_putter script.shape port)
  pub timers : (port : ℕ) → by_port port run.timers
      ≡ put_on_timers (setting_of script) (client_puts script run.clients) run.queues run.bridge (timers_putter script.shape port)
  pub publishers : (p : ℕ) → p < length script.publishers → taken_by (slice_index_or run.publishers p []) ≡ put_to_publisher script.shape run.bridge p
  pub queues : (q : ℕ) → q < queues_of script.shape → (port : ℕ) → by_port port (slice_index_or run.queues q [])
      ≡ put_on_queue script.shape run.bridge run.timers q (queue_putter port)
