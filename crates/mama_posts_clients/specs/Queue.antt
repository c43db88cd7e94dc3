-- believed: What the seat of a queue with its dispatcher keeps.
use Rattle.std.specs.Prelude.{◌≡◌, ℕ, ◌≤◌, true, false, List, [], ◌∷◌, ◌++◌, length, map, IfSome}
use Rattle.std.specs.List.{All, flat_map, list_any}
use mathlib.Core.List.{IsPrefix}
use Rattle.mama_journal.specs.Journal.{puts, first_said}
use Rattle.mama_journal.specs.Lane.{by_port}
use Rattle.mama_event.specs.declared.ids.ObjectId.{ObjectId}
use Rattle.mama_event.specs.declared.callback.CallNote.{CallNote}
use Rattle.mama_event.specs.declared.order.PlanRow.{PlanRow}
use Rattle.mama_event.specs.declared.to_bridge.BridgeNote.{BridgeNote}
use Rattle.mama_event.specs.declared.to_timers.TimersNote.{TimersNote}
use Rattle.mama_event.specs.declared.to_queue.QueueNote.{QueueNote}
use Rattle.mama_event.specs.declared.to_queue.QueueNote.TheVariants as q
use Rattle.mama_event.specs.Listener.{ListenerData, reached}
use Rattle.mama_event.specs.Ports.{queue_port_of_timers}
use Rattle.mama_event.specs.ToQueue.{is_last}
use Rattle.std.specs.Global.{Vec}
use Rattle.mama_event.specs.declared.watch.WatchRow.{WatchRow}
use Rattle.mama_event.specs.declared.watch.WatchNote.{WatchNote}
use Rattle.mama_rules_queue.specs.Queue.{QueuePut, deeds, is_destroy}
use Rattle.mama_rules_queue.specs.Watch.{watched_puts_at}
use Rattle.mama_timeout.specs.Table.{WatchData, watch_by}
use Rattle.mama_rules_rounds.specs.Client.{Planned, bridge_part, timers_part}
use Rattle.mama_rules_rounds.specs.Setting.{plan_in, rows_of}
use Rattle.mama_laws_allowed.specs.Allowed.{IsTakenLawfully}
use Rattle.mama_plans.specs.Orders.{orders_in}
use Rattle.mama_carry.specs.Fresh.{IsFresh}
use Rattle.mama_dispatch.specs.declared.turn.Turn.{Turn}
use Rattle.mama_dispatch.specs.declared.turn.Turn.TheVariants as turn
use Rattle.mama_dispatch.specs.Hearing.{HeardAt, ArePlanned}
use Rattle.mama_dispatch.specs.Journals.{is_born, notes_of}
use Rattle.mama_dispatch.specs.Seats.{SeatData}
use Rattle.mama_dispatch.specs.Served.{Served}
use Rattle.mama_lane.specs.Values.{TakerValue}
use Rattle.mama_ends.specs.Inlet.{InletValue}
use Rattle.mama_posts_clients.specs.Outlets.{OutletsValue, HasPut}

-- what is served, the watches with what they noted, the ends of the queue's lanes, what it has left to put, and the listeners that
-- came back with their objects
pub record QueuePostValue : Type 0 where
  pub served : Served
  pub watches : List WatchData
  pub inlet : InletValue QueueNote
  pub ports : OutletsValue
  pub left : List QueuePut
  pub back : List (ObjectId × ListenerData)

-- the plan of an object among these
abbrev pub plan_of : List Planned → ObjectId → List PlanRow
plan_of objects o = rows_of (first_said (plan_in o) objects)

-- the rows of watches, each with its number
abbrev pub rows_of_watches : List WatchData → List (ℕ × WatchRow)
rows_of_watches watches = map (λ (w : WatchData). (w.number, w.row)) watches

-- what a queue puts by its journal, the plans of these objects, and these watches
abbrev pub served_puts : List Planned → List (ℕ × WatchRow) → List (ℕ × QueueNote) → List QueuePut
served_puts objects watches journal = puts (watched_puts_at (orders_in objects) (map (λ (w : ℕ × WatchRow). w.1) watches)) journal

-- what a watch gives up: its number, with what it noted
abbrev pub notes_given : ℕ × Vec WatchNote → ℕ × List WatchNote
notes_given w = (w.0, w.1.items)

-- the notes of an object's callbacks, by the journal and the plans of these objects
abbrev pub calls_by : List Planned → List (ℕ × QueueNote) → ObjectId → List CallNote
calls_by objects journal o = notes_of o (deeds (orders_in objects) journal)

-- the object whose Gone a note is
abbrev pub gone_in : QueueNote → List ObjectId
gone_in (q.Create slot object make tag) = []
gone_in (q.Deliver slot sub msg) = []
gone_in (q.Reply slot inbox body) = []
gone_in (q.Bad slot sub kind sender seq bytes) = []
gone_in (q.BadReply slot inbox bytes) = []
gone_in (q.Tick slot timer moment) = []
gone_in (q.Gone slot object) = object ∷ []
gone_in q.Fin = []

-- the objects whose Gone was taken, in order
abbrev pub gone : List (ℕ × QueueNote) → List ObjectId
gone journal = flat_map (λ e. gone_in e.1) journal

-- the listener that a turn hands back, if it does, with its object
abbrev pub handed_back : {L : Type 0} → Turn L → List (ObjectId × L)
handed_back (turn.Ended object listener) = (object, listener) ∷ []
handed_back (turn.Called count) = []
handed_back (turn.Muted object) = []
handed_back turn.Running = []
handed_back turn.Finished = []

-- listeners with their objects, as plain data
abbrev pub told_back : {L : Type 0} → (L → ListenerData) → List (ObjectId × L) → List (ObjectId × ListenerData)
told_back view back = map (λ b. (b.0, view b.1)) back

-- The listener of an object, where it is there, came as it was made for this plan, and has heard the callbacks of the
-- object's seat since.
pub record HasHeardSeat (plan : List PlanRow) (object : ObjectId) (seats : List SeatData) : Type 0 where
  pub came : ListenerData
  pub fresh : IsFresh object plan came
  pub heard : HeardAt object came seats

-- no listener of an object is there: whatever came, it would have heard all
abbrev pub HasNoListener : ObjectId → List SeatData → Type 0
HasNoListener object seats = (came : ListenerData) → HeardAt object came seats

-- A listener that came back with its object: it has heard the callbacks of these notes and no others, as far as it tells
-- them, and on_destroy was one of them.
pub record HasComeBack (notes : List CallNote) (b : ObjectId × ListenerData) : Type 0 where
  pub tag : b.1.tag ≡ b.0
  pub count : b.1.calls ≡ reached 0 (length notes)
  pub heard : IfSome b.1.heard (λ calls. calls ≡ map (λ n. n.call) notes)
  pub ended : list_any is_destroy (map (λ n. n.call) notes) ≡ true

-- The seat of the queue of a number, where these objects are planned. What it took is its journal and then what is kept,
-- and of each port it is what that may put; what it put, and then what is left, is its journal's. Its watches noted what they do
-- by its journal. Its listeners order as planned, and each came as it was made and has heard what is called back of its object. Those of the objects whose Gone
-- was taken came back.
pub record IsQueueOf (objects : List Planned) (number : ℕ) (post : QueuePostValue) : Type 0 where
  pub number_is : post.served.queue ≡ number
  pub two_ports : post.inlet.taker.ports ≡ 2
  pub taken : post.inlet.taker.taken ≡ post.served.journal ++ post.inlet.kept
  pub lawful : IsTakenLawfully post.inlet.taker.taken
  pub put : HasPut post.ports post.left (served_puts objects (rows_of_watches post.watches) post.served.journal)
  pub noted : post.watches ≡ map (watch_by (orders_in objects) post.served.journal) (rows_of_watches post.watches)
  pub planned : ArePlanned (orders_in objects) post.served.seats
  pub heard : (object : ObjectId) → HasHeardSeat (plan_of objects object) object post.served.seats
  pub unborn : (object : ObjectId) → is_born object post.served.journal ≡ false → HasNoListener object post.served.seats
  pub gone_are : map (λ b. b.0) post.back ≡ gone post.served.journal
  pub back : All (λ b. HasComeBack (calls_by objects post.served.journal b.0) b) post.back

-- It has ended: it took the last event of both its ports, nothing is kept and nothing is left.
pub record HasEnded (post : QueuePostValue) : Type 0 where
  pub told : (port : ℕ) → port ≤ queue_port_of_timers → list_any is_last (by_port port post.inlet.taker.taken) ≡ true
  pub kept : post.inlet.kept ≡ []
  pub left : post.left ≡ []

-- What a queue that has ended took and put: all that it took is in its journal, with the last event of both its ports, and
-- on each lane it put what its journal puts.
pub record HasServedAll (objects : List Planned) (watches : List (ℕ × WatchRow)) (journal : List (ℕ × QueueNote)) (taker : TakerValue QueueNote) (on_bridge : List BridgeNote) (on_timers : List TimersNote) : Type 0 where
  pub taken : taker.taken ≡ journal
  pub told : (port : ℕ) → port ≤ queue_port_of_timers → list_any is_last (by_port port journal) ≡ true
  pub bridge : on_bridge ≡ flat_map bridge_part (served_puts objects watches journal)
  pub timers : on_timers ≡ flat_map timers_part (served_puts objects watches journal)

-- all was taken that the notes name which it learnt
abbrev pub IsCaughtUp : InletValue QueueNote → Type 0
IsCaughtUp inlet = All (λ note. IsPrefix note.1 (by_port note.0 inlet.taker.taken)) inlet.taker.learnt

-- A step: what was left was put, and nothing else changed; or, where nothing was left, an event was taken.
pub data MadeStep (old new : QueuePostValue) : Type 0 where
  finished : (first : QueuePut) (rest : List QueuePut) → old.left ≡ first ∷ rest → new.served ≡ old.served → new.watches ≡ old.watches → new.inlet ≡ old.inlet → new.back ≡ old.back → MadeStep old new
  took : (e : ℕ × QueueNote) → old.left ≡ [] → new.served.journal ≡ old.served.journal ++ e ∷ [] → new.inlet.kept ≡ [] → MadeStep old new

-- the seat, where an event that was fetched, with its port, counts as kept
abbrev pub holding : QueuePostValue → ℕ → QueueNote → QueuePostValue
holding post port note = record post { inlet = record post.inlet { kept = (port, note) ∷ [] } }
