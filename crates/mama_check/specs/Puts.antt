-- believed: What all actors put by a record, each event with the number of the entry that put it.
use Rattle.std.specs.Prelude.{◌≡◌, ℕ, List, [], length, map, slice_index_or}
use Rattle.mama_event.specs.declared.to_bridge.BridgeNote.{BridgeNote}
use Rattle.mama_event.specs.declared.to_timers.TimersNote.{TimersNote}
use Rattle.mama_event.specs.Ports.{publishers_of, queues_of}
use Rattle.mama_event.specs.Publisher.{publisher_puts_at}
use Rattle.mama_check_order.specs.Numbered.{numbered, parted}
use Rattle.mama_script.specs.Script.{ScriptData}
use Rattle.mama_record.specs.RunData.{RunData}
use Rattle.mama_rules_rounds.specs.Client.{bridge_part, timers_part}
use Rattle.mama_rules_rounds.specs.Setting.{no_section, rows_on}
use Rattle.mama_rules_rounds.specs.Sections.{setting_of}
use Rattle.mama_check_puts.specs.Puts.{AreLists, bridge_put_to_publisher, bridge_put_to_queue, bridge_put_to_timers, publishers_in, queues_in}
use Rattle.mama_check_puts.specs.Client.{client_put_to_bridge, client_put_to_timers}
use Rattle.mama_check_puts.specs.declared.client.ClientPuts.{ClientPuts}
use Rattle.mama_check_puts.specs.declared.bridge.BridgePuts.{BridgePuts}
use Rattle.mama_plans.specs.Lists.{groups_on_each, watches_on_each}
use Rattle.mama_check_queue.specs.Served.{ServedData, puts_in}
use Rattle.mama_check_queue.specs.Recorded.{journals_of, AreOf}

abbrev pub to_bridge_in : List ClientPuts → List (List (ℕ × BridgeNote))
to_bridge_in clients = map (λ c. c.to_bridge.items) clients

abbrev pub to_timers_in : List ClientPuts → List (List (ℕ × TimersNote))
to_timers_in clients = map (λ c. c.to_timers.items) clients

-- what the client of a number put to the bridge and to the timer service, by its lines and the moments that it read
abbrev pub client_to_bridge : ScriptData → RunData → ℕ → List (ℕ × BridgeNote)
client_to_bridge script run c = client_put_to_bridge (queues_of script.shape) c (slice_index_or run.clients c []) (slice_index_or script.clients c [])

abbrev pub client_to_timers : ScriptData → RunData → ℕ → List (ℕ × TimersNote)
client_to_timers script run c = client_put_to_timers (queues_of script.shape) c (slice_index_or run.clients c []) (slice_index_or script.clients c [])

-- these are the puts of all clients
pub record AreClientPuts (script : ScriptData) (run : RunData) (clients : List ClientPuts) : Type 0 where
  pub bridge : AreLists (to_bridge_in clients) (length script.clients) (client_to_bridge script run)
  pub timers : AreLists (to_timers_in clients) (length script.clients) (client_to_timers script run)

-- what the publisher of a number put by its journal
abbrev pub publisher_to_bridge : ScriptData → RunData → ℕ → List (ℕ × BridgeNote)
publisher_to_bridge script run p = numbered (publisher_puts_at (slice_index_or (setting_of script).publishers p no_section)) (slice_index_or run.publishers p [])

-- what the queue of a number put to the bridge and to the timer service, by its journal and the plans of its objects
abbrev pub queue_to_bridge : ScriptData → RunData → ℕ → List (ℕ × BridgeNote)
queue_to_bridge script run q = parted bridge_part (puts_in (setting_of script).objects (rows_on q (setting_of script).watches) (slice_index_or run.queues q []))

abbrev pub queue_to_timers : ScriptData → RunData → ℕ → List (ℕ × TimersNote)
queue_to_timers script run q = parted timers_part (puts_in (setting_of script).objects (rows_on q (setting_of script).watches) (slice_index_or run.queues q []))

-- these are the puts of the bridge
pub record AreBridgePuts (script : ScriptData) (run : RunData) (puts : BridgePuts) : Type 0 where
  pub publishers : AreLists (publishers_in puts) (publishers_of script.shape) (bridge_put_to_publisher script.shape run.bridge)
  pub queues : AreLists (queues_in puts) (queues_of script.shape) (bridge_put_to_queue script.shape run.bridge)
  pub timers : puts.to_timers.items ≡ bridge_put_to_timers script.shape run.bridge

-- these are the queues of the script with their groups and watches, served again by their journals
pub record AreServed (script : ScriptData) (run : RunData) (served : List ServedData) : Type 0 where
  pub journals : journals_of served ≡ run.queues
  pub objects : AreOf (setting_of script).objects served
  pub groups : map (λ s. s.groups) served ≡ groups_on_each (queues_of script.shape) (setting_of script).groups
  pub watches : map (λ s. s.watches) served ≡ watches_on_each (queues_of script.shape) (setting_of script).watches
