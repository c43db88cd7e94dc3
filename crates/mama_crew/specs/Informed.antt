-- believed: What a seat has put to another, and a seat that has learnt of it.
use Rattle.std.specs.Prelude.{ℕ, map, Option, None, Some}
use Rattle.std.specs.List.{slice_get}
use Rattle.mama_event.specs.declared.to_bridge.BridgeNote.{BridgeNote}
use Rattle.mama_event.specs.declared.to_publisher.PublisherNote.{PublisherNote}
use Rattle.mama_event.specs.declared.to_queue.QueueNote.{QueueNote}
use Rattle.mama_event.specs.declared.to_timers.TimersNote.{TimersNote}
use Rattle.mama_script.specs.Script.{ScriptData}
use Rattle.mama_lane.specs.Values.{NoteValue, note_of_port, after_learn}
use Rattle.mama_ends.specs.Inlet.{InletValue}
use Rattle.mama_posts_services.specs.Publisher.{PublisherPostValue}
use Rattle.mama_posts_services.specs.Bridge.{BridgePostValue}
use Rattle.mama_posts_services.specs.Timers.{TimersPostValue}
use Rattle.mama_posts_clients.specs.Queue.{QueuePostValue}
use Rattle.mama_crew.specs.Hall.{HallValue}
use Rattle.mama_crew.specs.declared.seat.Seat.{Seat}
use Rattle.mama_crew.specs.declared.seat.Seat.TheVariants.{Client, Publisher, Bridge, Timers, Queue}
use Rattle.mama_crew.specs.Seat.{IsSeatOf}

-- both seats are of one script in this hall
pub record AreOfOneCrew {L : Type 0} (hall : HallValue) (a b : Seat L) : Type 0 where
  pub script : ScriptData
  pub first : IsSeatOf script hall a
  pub second : IsSeatOf script hall b

-- The notes of all that a seat has put so far to the bridge, to the timer service, and to the publisher and the queue of a number.
-- There is none where it has no port there.
abbrev pub put_to_bridge : {L : Type 0} → Seat L → Option (NoteValue BridgeNote)
put_to_bridge (Client c seat) = Some (note_of_port seat.post.ports.to_bridge)
put_to_bridge (Publisher p post) = Some (note_of_port post.port)
put_to_bridge (Bridge post) = None
put_to_bridge (Timers post) = None
put_to_bridge (Queue q post) = Some (note_of_port post.ports.to_bridge)

abbrev pub put_to_timers : {L : Type 0} → Seat L → Option (NoteValue TimersNote)
put_to_timers (Client c seat) = Some (note_of_port seat.post.ports.to_timers)
put_to_timers (Publisher p post) = None
put_to_timers (Bridge post) = Some (note_of_port post.ports.timers)
put_to_timers (Timers post) = None
put_to_timers (Queue q post) = Some (note_of_port post.ports.to_timers)

abbrev pub put_to_publisher : {L : Type 0} → ℕ → Seat L → Option (NoteValue PublisherNote)
put_to_publisher number (Client c seat) = None
put_to_publisher number (Publisher p post) = None
put_to_publisher number (Bridge post) = slice_get (map note_of_port post.ports.publishers) number
put_to_publisher number (Timers post) = None
put_to_publisher number (Queue q post) = None

abbrev pub put_to_queue : {L : Type 0} → ℕ → Seat L → Option (NoteValue QueueNote)
put_to_queue number (Client c seat) = None
put_to_queue number (Publisher p post) = None
put_to_queue number (Bridge post) = slice_get (map note_of_port post.ports.queues) number
put_to_queue number (Timers post) = slice_get (map note_of_port post.queues) number
put_to_queue number (Queue q post) = None

-- an inlet whose taker learnt the note, if there is one; and the posts that have such an inlet
abbrev pub told : {N : Type 0} → Option (NoteValue N) → InletValue N → InletValue N
told None inlet = inlet
told (Some note) inlet = record inlet { taker = after_learn inlet.taker note }

abbrev pub publisher_told : Option (NoteValue PublisherNote) → PublisherPostValue → PublisherPostValue
publisher_told note post = record post { inlet = told note post.inlet }

abbrev pub bridge_told : Option (NoteValue BridgeNote) → BridgePostValue → BridgePostValue
bridge_told note post = record post { service = record post.service { inlet = told note post.service.inlet } }

abbrev pub timers_told : Option (NoteValue TimersNote) → TimersPostValue → TimersPostValue
timers_told note post = record post { service = record post.service { inlet = told note post.service.inlet } }

abbrev pub queue_told : Option (NoteValue QueueNote) → QueuePostValue → QueuePostValue
queue_told note post = record post { inlet = told note post.inlet }

-- The second seat once it has learnt all that the first has put to it so far. Nothing else of it changes.
abbrev pub informed : {L : Type 0} → Seat L → Seat L → Seat L
informed teller (Client c seat) = Client c seat
informed teller (Publisher p post) = Publisher p (publisher_told (put_to_publisher p teller) post)
informed teller (Bridge post) = Bridge (bridge_told (put_to_bridge teller) post)
informed teller (Timers post) = Timers (timers_told (put_to_timers teller) post)
informed teller (Queue q post) = Queue q (queue_told (put_to_queue q teller) post)
