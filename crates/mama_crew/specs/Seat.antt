-- believed: Whose seat it is, what it keeps in a crew, and what a turn of it is.
use Rattle.std.specs.Prelude.{◌≡◌, ℕ, ◌<◌, true, List, [], length, Some}
use Rattle.std.specs.List.{slice_get}
use mathlib.Core.List.{IsPrefix}
use Rattle.mama_edge.specs.declared.gate.GateActor.{GateActor}
use Rattle.mama_edge.specs.declared.gate.GateActor.TheVariants as gate
use Rattle.mama_event.specs.Ports.{clients_of, queues_of, bridge_port_of_client, bridge_port_of_publisher, bridge_port_of_queue, timers_port_of_client, timers_port_of_queue}
use Rattle.mama_event.specs.declared.to_queue.QueueNote.{QueueNote}
use Rattle.mama_script.specs.declared.publisher.PublisherPart.{PublisherPart}
use Rattle.mama_script.specs.Script.{ScriptData}
use Rattle.mama_rules_rounds.specs.Sections.{setting_of}
use Rattle.mama_plans.specs.Lists.{watches_on}
use Rattle.mama_seats.specs.Stand.{reads_next}
use Rattle.mama_posts_services.specs.Ports.{lanes_of, ids_of}
use Rattle.mama_posts_clients.specs.Client.{ClientPostValue, IsClientOf, stand_at}
use Rattle.mama_posts_clients.specs.Client as client
use Rattle.mama_posts_services.specs.Publisher.{PublisherPostValue, IsPublisherOf}
use Rattle.mama_posts_services.specs.Publisher as publisher
use Rattle.mama_posts_services.specs.Bridge.{BridgePostValue, IsBridgeOf}
use Rattle.mama_posts_services.specs.Bridge as bridge
use Rattle.mama_posts_services.specs.Timers.{TimersPostValue, IsTimersOf}
use Rattle.mama_posts_services.specs.Timers as timers
use Rattle.mama_posts_services.specs.Service as service
use Rattle.mama_posts_clients.specs.Queue.{QueuePostValue, rows_of_watches, IsQueueOf}
use Rattle.mama_posts_clients.specs.Queue as queue
use Rattle.mama_crew.specs.Hall.{HallValue, IsPortAt, IsLaneAt}
use Rattle.mama_crew.specs.declared.seat.Seat.{Seat}
use Rattle.mama_crew.specs.declared.seat.Seat.TheVariants.{Client, Publisher, Bridge, Timers, Queue}
use Rattle.mama_crew.specs.Client.{ClientSeatValue, reads_now}

-- whose seat it is
abbrev pub actor_of : {L : Type 0} → Seat L → GateActor
actor_of (Client c seat) = gate.Client c
actor_of (Publisher p post) = gate.Publisher p
actor_of (Bridge post) = gate.Bridge
actor_of (Timers post) = gate.Timers
actor_of (Queue q post) = gate.Queue q

-- what a queue's seat took and served; nothing where the seat is no queue's
abbrev pub journal_in : {L : Type 0} → Seat L → List (ℕ × QueueNote)
journal_in (Queue n post) = post.served.journal
journal_in (Client c seat) = []
journal_in (Publisher p post) = []
journal_in (Bridge post) = []
journal_in (Timers post) = []

-- The seat of the client of this number: it has the client's ports on the lanes of both services.
pub record IsClientIn (script : ScriptData) (hall : HallValue) (c : ℕ) (seat : ClientSeatValue) : Type 0 where
  pub there : c < clients_of script.shape
  pub keeps : IsClientOf script c seat.post
  pub on_bridge : IsPortAt hall.to_bridge (bridge_port_of_client script.shape c) seat.post.ports.to_bridge
  pub on_timers : IsPortAt hall.to_timers (timers_port_of_client script.shape c) seat.post.ports.to_timers
  pub reads : seat.reads ≡ reads_now script c seat.post

-- The seat of the publisher of this number: it takes from the publisher's lane, and has its port on the bridge's.
pub record IsPublisherIn (script : ScriptData) (hall : HallValue) (p : ℕ) (post : PublisherPostValue) : Type 0 where
  pub there : p < length script.publishers
  pub keeps : (part : PublisherPart) → slice_get script.publishers p ≡ Some part → IsPublisherOf part p post
  pub lane : IsLaneAt hall.to_publishers p post.inlet.taker.lane
  pub on_bridge : IsPortAt hall.to_bridge (bridge_port_of_publisher script.shape p) post.port

-- The bridge's seat: it takes from the bridge's lane, and has the bridge's ports on all others.
pub record IsBridgeIn (script : ScriptData) (hall : HallValue) (post : BridgePostValue) : Type 0 where
  pub keeps : IsBridgeOf script.shape post
  pub lane : post.service.inlet.taker.lane ≡ hall.to_bridge.id
  pub publishers : lanes_of post.ports.publishers ≡ ids_of hall.to_publishers
  pub queues : lanes_of post.ports.queues ≡ ids_of hall.to_queues
  pub timers : post.ports.timers.lane ≡ hall.to_timers.id

-- The timer service's seat: it takes from the service's lane, and has its ports on the queues' lanes.
pub record IsTimersIn (script : ScriptData) (hall : HallValue) (post : TimersPostValue) : Type 0 where
  pub keeps : IsTimersOf script.shape post
  pub lane : post.service.inlet.taker.lane ≡ hall.to_timers.id
  pub queues : lanes_of post.queues ≡ ids_of hall.to_queues

-- The seat of the queue of this number: it has the queue's watches, takes from the queue's lane, and has its ports on the lanes of
-- both services.
pub record IsQueueIn (script : ScriptData) (hall : HallValue) (q : ℕ) (post : QueuePostValue) : Type 0 where
  pub there : q < queues_of script.shape
  pub keeps : IsQueueOf hall.objects q post
  pub watches : rows_of_watches post.watches ≡ watches_on (setting_of script).watches q
  pub lane : IsLaneAt hall.to_queues q post.inlet.taker.lane
  pub on_bridge : IsPortAt hall.to_bridge (bridge_port_of_queue script.shape q) post.ports.to_bridge
  pub on_timers : IsPortAt hall.to_timers (timers_port_of_queue script.shape q) post.ports.to_timers

-- the client did no line and read no moment, and nothing was put or is left
pub record HasNotWalked (post : ClientPostValue) : Type 0 where
  pub line : post.walk.line ≡ 0
  pub read : post.walk.read ≡ []
  pub left : post.left ≡ []
  pub on_bridge : post.ports.to_bridge.put ≡ []
  pub on_timers : post.ports.to_timers.put ≡ []

-- a seat of an actor of this script, with the actor's ends of the lanes of this hall
abbrev pub IsSeatOf : {L : Type 0} → ScriptData → HallValue → Seat L → Type 0
IsSeatOf script hall (Client c seat) = IsClientIn script hall c seat
IsSeatOf script hall (Publisher p post) = IsPublisherIn script hall p post
IsSeatOf script hall (Bridge post) = IsBridgeIn script hall post
IsSeatOf script hall (Timers post) = IsTimersIn script hall post
IsSeatOf script hall (Queue q post) = IsQueueIn script hall q post

-- all is done, and nothing is left
abbrev pub HasEnded : {L : Type 0} → Seat L → Type 0
HasEnded (Client c seat) = client.HasEnded seat.post
HasEnded (Publisher p post) = publisher.HasEnded post
HasEnded (Bridge post) = service.HasEnded (bridge.is_over post.service.shape) post.service
HasEnded (Timers post) = service.HasEnded (timers.is_over post.service.shape) post.service
HasEnded (Queue q post) = queue.HasEnded post

-- There is nothing to do, and all was taken that the seat knows to be put. A client takes nothing, so it always has something
-- to do, or has ended.
abbrev pub IsIdle : {L : Type 0} → Seat L → Type 0
IsIdle (Client c seat) = ⊥
IsIdle (Publisher p post) = (post.progress.over ≡ true) × (post.left ≡ []) × publisher.IsCaughtUp post.inlet
IsIdle (Bridge post) = service.IsIdle post.service
IsIdle (Timers post) = service.IsIdle post.service
IsIdle (Queue q post) = (post.left ≡ []) × (post.inlet.kept ≡ []) × queue.IsCaughtUp post.inlet

-- the next step of the seat is a line that reads the clock
abbrev pub ReadsClock : {L : Type 0} → ScriptData → Seat L → Type 0
ReadsClock script (Client c seat) = (seat.post.left ≡ []) × (reads_next (stand_at script c seat.post.walk) ≡ true)
ReadsClock script (Publisher p post) = ⊥
ReadsClock script (Bridge post) = ⊥
ReadsClock script (Timers post) = ⊥
ReadsClock script (Queue q post) = ⊥

-- the journal of the same kind of seat, or the moments that a client has read, after more of them came
abbrev pub Grows : {L : Type 0} → Seat L → Seat L → Type 0
Grows (Client c old) (Client d new) = IsPrefix old.post.walk.read new.post.walk.read
Grows (Publisher p old) (Publisher r new) = IsPrefix old.progress.journal new.progress.journal
Grows (Bridge old) (Bridge new) = IsPrefix old.service.journal new.service.journal
Grows (Timers old) (Timers new) = IsPrefix old.service.journal new.service.journal
Grows (Queue q old) (Queue r new) = IsPrefix old.served.journal new.served.journal
Grows _ _ = ⊥

-- A step of the seat was made: a line was done, an event was taken, or what was left of a step was put. Nothing is left.
abbrev pub MadeStep : {L : Type 0} → ScriptData → ℕ → Seat L → Seat L → Type 0
MadeStep script moment (Client c old) (Client d new) = client.MadeStep script c moment old.post new.post × (new.post.left ≡ [])
MadeStep script moment (Publisher p old) (Publisher r new) = ((part : PublisherPart) → slice_get script.publishers p ≡ Some part → publisher.MadeStep part old new) × (new.left ≡ [])
MadeStep script moment (Bridge old) (Bridge new) = service.MadeStep old.service new.service × (new.service.left ≡ [])
MadeStep script moment (Timers old) (Timers new) = service.MadeStep old.service new.service × (new.service.left ≡ [])
MadeStep script moment (Queue q old) (Queue r new) = queue.MadeStep old new × (new.left ≡ [])
MadeStep script moment _ _ = ⊥
