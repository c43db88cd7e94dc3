-- believed: Whether one order of all that the actors did has each event taken after it was put.
use Rattle.std.specs.Prelude.{◌≡◌, ℕ, suc, ◌+◌, ◌<◌, List, [], ◌∷◌, ◌++◌, length, map, replicate, slice_index_or, Option, None}
use Rattle.mama_journal.specs.Journal.{numbers_below}
use Rattle.mama_journal.specs.Lane.{by_port}
use Rattle.mama_event.specs.declared.shape.Shape.{Shape}
use Rattle.mama_event.specs.declared.to_bridge.BridgeNote.{BridgeNote}
use Rattle.mama_event.specs.declared.to_timers.TimersNote.{TimersNote}
use Rattle.mama_event.specs.declared.to_queue.QueueNote.{QueueNote}
use Rattle.mama_event.specs.Ports.{clients_of, publishers_of, queues_of, bridge_port_of_client, bridge_port_of_publisher, bridge_port_of_queue, timers_port_of_client, timers_port_of_queue, timers_port_of_bridge}
use Rattle.mama_check_order.specs.Order.{HasOrder}
use Rattle.mama_check_order.specs.declared.order.Need.{Need}
use Rattle.mama_check_order.specs.Taken.{needs_of, sender_needs_of}
use Rattle.mama_rules_services.specs.Ports.{bridge_putter, timers_putter, queue_putter}
use Rattle.mama_script.specs.Script.{ScriptData}
use Rattle.mama_record.specs.RunData.{RunData}
use Rattle.mama_rules_rounds.specs.Sections.{setting_of}
use Rattle.mama_rules_legal.specs.Edges.{client_puts, taken_by, put_on_bridge, put_on_timers, put_to_publisher, put_on_queue}
use Rattle.mama_check_puts.specs.Puts.{timers_put_to, bridge_put_to_publisher, bridge_put_to_queue, bridge_put_to_timers}
use Rattle.mama_check.specs.Puts.{client_to_bridge, client_to_timers, publisher_to_bridge, queue_to_bridge, queue_to_timers}

-- THE NUMBERS OF THE ACTORS: clients come first, then publishers, then the bridge, the timer service, and queues

abbrev pub client_actor : Shape → ℕ → ℕ
client_actor shape c = c

abbrev pub publisher_actor : Shape → ℕ → ℕ
publisher_actor shape p = clients_of shape + p

abbrev pub bridge_actor : Shape → ℕ
bridge_actor shape = clients_of shape + publishers_of shape

abbrev pub timers_actor : Shape → ℕ
timers_actor shape = clients_of shape + publishers_of shape + 1

abbrev pub queue_actor : Shape → ℕ → ℕ
queue_actor shape q = clients_of shape + publishers_of shape + 2 + q

-- what there is for each of so many actors of a kind, in order
abbrev pub of_each : {V : Type 0} → ℕ → (ℕ → V) → List V
of_each count f = map f (numbers_below count)

-- THE LANES: who puts by each port, and what was put there, each event with the number of the entry that put it

-- the bridge's lane: clients, publishers, queues
abbrev pub actors_to_bridge : Shape → List ℕ
actors_to_bridge shape = (of_each (clients_of shape) (client_actor shape) ++ of_each (publishers_of shape) (publisher_actor shape)) ++ of_each (queues_of shape) (queue_actor shape)

abbrev pub all_to_bridge : ScriptData → RunData → List (List (ℕ × BridgeNote))
all_to_bridge script run =
    (of_each (clients_of script.shape) (client_to_bridge script run) ++ of_each (publishers_of script.shape) (publisher_to_bridge script run))
    ++ of_each (queues_of script.shape) (queue_to_bridge script run)

-- the timer service's lane: clients, queues, the bridge
abbrev pub actors_to_timers : Shape → List ℕ
actors_to_timers shape = (of_each (clients_of shape) (client_actor shape) ++ of_each (queues_of shape) (queue_actor shape)) ++ bridge_actor shape ∷ []

abbrev pub all_to_timers : ScriptData → RunData → List (List (ℕ × TimersNote))
all_to_timers script run =
    (of_each (clients_of script.shape) (client_to_timers script run) ++ of_each (queues_of script.shape) (queue_to_timers script run))
    ++ bridge_put_to_timers script.shape run.bridge ∷ []

-- a queue's lane: the bridge, the timer service
abbrev pub actors_to_queue : Shape → List ℕ
actors_to_queue shape = bridge_actor shape ∷ timers_actor shape ∷ []

abbrev pub all_to_queue : ScriptData → RunData → ℕ → List (List (ℕ × QueueNote))
all_to_queue script run q = bridge_put_to_queue script.shape run.bridge q ∷ timers_put_to script.shape run.timers q ∷ []

-- WHAT ENTRIES NEED: one that takes an event needs the entry that put it

-- a client takes nothing: its lines, and that it is done after them, need nothing
abbrev pub client_needs : ScriptData → ℕ → List (Option Need)
client_needs script c = replicate (suc (length (slice_index_or script.clients c []))) None

abbrev pub publisher_needs : ScriptData → RunData → ℕ → List (Option Need)
publisher_needs script run p = sender_needs_of (bridge_actor script.shape) (bridge_put_to_publisher script.shape run.bridge p) (slice_index_or run.publishers p [])

abbrev pub bridge_needs : ScriptData → RunData → List (Option Need)
bridge_needs script run = needs_of (actors_to_bridge script.shape) (all_to_bridge script run) run.bridge

abbrev pub timers_needs : ScriptData → RunData → List (Option Need)
timers_needs script run = needs_of (actors_to_timers script.shape) (all_to_timers script run) run.timers

abbrev pub queue_needs : ScriptData → RunData → ℕ → List (Option Need)
queue_needs script run q = needs_of (actors_to_queue script.shape) (all_to_queue script run q) (slice_index_or run.queues q [])

-- what the entries of all actors need, in the order of their numbers
abbrev pub all_needs : ScriptData → RunData → List (List (Option Need))
all_needs script run =
    ((of_each (clients_of script.shape) (client_needs script) ++ of_each (publishers_of script.shape) (publisher_needs script run))
    ++ bridge_needs script run ∷ timers_needs script run ∷ [])
    ++ of_each (queues_of script.shape) (queue_needs script run)

-- what the entries of an actor need stands at its number
pub record AreByNumber (script : ScriptData) (run : RunData) : Type 0 where
  pub clients : (c : ℕ) → c < clients_of script.shape → slice_index_or (all_needs script run) (client_actor script.shape c) [] ≡ client_needs script c
  pub publishers : (p : ℕ) → p < publishers_of script.shape → slice_index_or (all_needs script run) (publisher_actor script.shape p) [] ≡ publisher_needs script run p
  pub bridge : slice_index_or (all_needs script run) (bridge_actor script.shape) [] ≡ bridge_needs script run
  pub timers : slice_index_or (all_needs script run) (timers_actor script.shape) [] ≡ timers_needs script run
  pub queues : (q : ℕ) → q < queues_of script.shape → slice_index_or (all_needs script run) (queue_actor script.shape q) [] ≡ queue_needs script run q

-- behind the ports of the two lanes that many put on stand those whose ports they are
pub record AreByPort (shape : Shape) : Type 0 where
  pub bridge_clients : (c : ℕ) → c < clients_of shape → slice_index_or (actors_to_bridge shape) (bridge_port_of_client shape c) 0 ≡ client_actor shape c
  pub bridge_publishers : (p : ℕ) → p < publishers_of shape → slice_index_or (actors_to_bridge shape) (bridge_port_of_publisher shape p) 0 ≡ publisher_actor shape p
  pub bridge_queues : (q : ℕ) → q < queues_of shape → slice_index_or (actors_to_bridge shape) (bridge_port_of_queue shape q) 0 ≡ queue_actor shape q
  pub timers_clients : (c : ℕ) → c < clients_of shape → slice_index_or (actors_to_timers shape) (timers_port_of_client shape c) 0 ≡ client_actor shape c
  pub timers_queues : (q : ℕ) → q < queues_of shape → slice_index_or (actors_to_timers shape) (timers_port_of_queue shape q) 0 ≡ queue_actor shape q
  pub timers_bridge : slice_index_or (actors_to_timers shape) (timers_port_of_bridge shape) 0 ≡ bridge_actor shape

-- laws: both hold everywhere

abbrev pub NeedsAreByNumber : Type 0
NeedsAreByNumber = (script : ScriptData) (run : RunData) → AreByNumber script run

abbrev pub ActorsAreByPort : Type 0
ActorsAreByPort = (shape : Shape) → AreByPort shape

-- WHAT WAS TAKEN WAS PUT, of any record, legal or not

-- some events are the first of what was put
abbrev pub Begins : {V : Type 0} → List V → List V → Type 0
Begins {V} taken put = (rest : List V) × (taken ++ rest ≡ put)

-- What was taken on an edge is the first of what was put there, event by event. By a port that is no actor's nothing was
-- put, and so nothing was taken.
pub record WasPut (script : ScriptData) (run : RunData) : Type 0 where
  pub bridge : (port : ℕ) → Begins (by_port port run.bridge)
      (put_on_bridge (setting_of script) (client_puts script run.clients) run.publishers run.queues (bridge_putter script.shape port))
  pub timers : (port : ℕ) → Begins (by_port port run.timers)
      (put_on_timers (setting_of script) (client_puts script run.clients) run.queues run.bridge (timers_putter script.shape port))
  pub publishers : (p : ℕ) → Begins (taken_by (slice_index_or run.publishers p [])) (put_to_publisher script.shape run.bridge p)
  pub queues : (q port : ℕ) → Begins (by_port port (slice_index_or run.queues q []))
      (put_on_queue script.shape run.bridge run.timers q (queue_putter port))

-- A record is causal where one order of all entries and client lines keeps each actor's own order, and has each event taken
-- after it was put. A take that nothing put has no cause, so a record with one is not causal.
pub record IsCausal (script : ScriptData) (run : RunData) : Type 0 where
  pub put : WasPut script run
  pub order : HasOrder (all_needs script run)
