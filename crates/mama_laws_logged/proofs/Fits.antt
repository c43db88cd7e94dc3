-- What is shown of each note, event, put and deed of a legal record: the parts of what a log may have of it.
use Rattle.std.specs.Prelude.{◌≡◌, ℕ, suc, ◌+◌, ◌^◌, ◌<◌, ◌≤◌, List, ◌∷◌, ◌++◌, length, Some, Ok, Err}
use Rattle.std.specs.List.{AllByRecursion}
use Rattle.mama_msg.specs.Field.{FieldData}
use Rattle.mama_payload.specs.Spelling.{spelling}
use Rattle.mama_event.specs.declared.ids.ObjectId.{ObjectId}
use Rattle.mama_event.specs.declared.ids.ObjectId.TheVariants.{Sub, Timer, Inbox}
use Rattle.mama_event.specs.declared.market.MarketMsg.{MarketMsg}
use Rattle.mama_event.specs.declared.watch.WatchRow.{WatchRow}
use Rattle.mama_event.specs.declared.wire.PieceMsg.{PieceMsg}
use Rattle.mama_event.specs.Arrival.{Arrival, ReplyArrival}
use Rattle.mama_event.specs.declared.callback.Callback.{Callback}
use Rattle.mama_event.specs.declared.order.Order.{Order}
use Rattle.mama_event.specs.declared.to_bridge.BridgeNote.{BridgeNote}
use Rattle.mama_event.specs.declared.to_bridge.BridgeNote.TheVariants as b
use Rattle.mama_event.specs.declared.to_timers.TimersNote.{TimersNote}
use Rattle.mama_event.specs.declared.to_timers.TimersNote.TheVariants as t
use Rattle.mama_event.specs.declared.to_queue.QueueNote.{QueueNote}
use Rattle.mama_event.specs.declared.to_queue.QueueNote.TheVariants as q
use Rattle.mama_event.specs.Publisher.{PublisherScript, updates_of}
use Rattle.mama_event.specs.Record.{record_after}
use Rattle.mama_rules_services.specs.Bridge.{BridgeEvent, joins, opens, asks, BridgePut, to_publisher, to_queue, to_timers}
use Rattle.mama_rules_services.specs.Timers.{TimersEvent, arms}
use Rattle.mama_rules_queue.specs.Queue.{QueuePut, Deed, handled, called}
use Rattle.mama_rules_queue.specs.Queue as queue
use Rattle.mama_rules_rounds.specs.Client.{Planned}
use Rattle.mama_event.specs.Plan.{planned}
use Rattle.mama_words.specs.declared.nums.Nums.{Nums}
use Rattle.mama_log_line.specs.Names.{NamesData, terms_of, inbox_terms_of, make_of, IsSub, IsTimer, IsInbox}
use Rattle.mama_log_line.specs.Entering.{AreFids, IsBody, IsMarketMsg, IsPublisherNote, BridgeFromClient, BridgeFromQueue, TimersFromClient, TimersFromQueue, IsLinked, MayHear, MayOrder}

-- an object that the script declares
abbrev pub IsObject : NamesData → ObjectId → Type 0
IsObject names (Sub id) = IsSub names id
IsObject names (Timer id) = IsTimer names id
IsObject names (Inbox id) = IsInbox names id

-- a message as a publisher puts it: a number more fits its type as well
pub record IsSound (nums : Nums) (m : MarketMsg) : Type 0 where
  pub msg : IsMarketMsg nums m
  pub next : suc m.seq < 2 ^ 32

-- ---- what comes out of links

-- a front of the spelling of a body, and not the whole
pub record IsFront (nums : Nums) (bytes : List ℕ) : Type 0 where
  pub body : List FieldData
  pub is : IsBody nums body
  pub next : ℕ
  pub more : List ℕ
  pub split : spelling body ≡ bytes ++ next ∷ more

-- what a cut left of a message
pub record IsCut (nums : Nums) (p : PieceMsg) : Type 0 where
  pub sender : p.sender < 2 ^ 32
  pub seq : p.seq < 2 ^ 32
  pub front : IsFront nums p.body

abbrev pub Arrives : Nums → Arrival → Type 0
Arrives nums (Ok m) = IsSound nums m
Arrives nums (Err p) = IsCut nums p

abbrev pub IsAnswered : Nums → ReplyArrival → Type 0
IsAnswered nums (Ok body) = IsBody nums body
IsAnswered nums (Err bytes) = IsFront nums bytes

-- ---- what a script says

-- an object with a plan: its orders are such as a log may have, at most 8 for each callback
pub record IsPlan (names : NamesData) (p : Planned) : Type 0 where
  pub object : IsObject names p.object
  pub orders : AllByRecursion (λ row. MayOrder names row.order) p.plan
  pub few : (call : ℕ) → length (planned p.plan call) ≤ 8

-- a publisher whose messages are sound
pub record IsSender (nums : Nums) (publisher : PublisherScript) : Type 0 where
  pub number : publisher.number + 1 < 2 ^ 32
  pub few : suc (length (updates_of publisher.lines)) < 2 ^ 32
  pub updates : AllByRecursion (IsBody nums) (updates_of publisher.lines)
  pub records : (n : ℕ) → n ≤ length (updates_of publisher.lines) → IsBody nums (record_after publisher.base (updates_of publisher.lines) n)

-- a watch: its sender's id and the number of its retries fit their types
pub record IsWatch (row : WatchRow) : Type 0 where
  pub sender : row.sender < 2 ^ 32
  pub retries : row.retries < 2 ^ 32

-- ---- what actors put

-- by a client
abbrev pub ClientPut : NamesData → QueuePut → Type 0
ClientPut names (queue.to_bridge note) = BridgeFromClient names note
ClientPut names (queue.to_timers note) = TimersFromClient names note

-- by a publisher
abbrev pub PublisherPut : NamesData → BridgeNote → Type 0
PublisherPut names (b.Publish msg) = IsSound names.nums msg
PublisherPut names (b.Image sub msg) = IsSub names sub × IsSound names.nums msg
PublisherPut names (b.Reply inbox body) = IsInbox names inbox × IsBody names.nums body
PublisherPut names b.SendsDone = Unit {0}
PublisherPut names b.Settled = Unit {0}
PublisherPut names _ = ⊥

-- by a queue
abbrev pub QueuePutFits : NamesData → QueuePut → Type 0
QueuePutFits names (queue.to_bridge note) = BridgeFromQueue names note
QueuePutFits names (queue.to_timers note) = TimersFromQueue names note

-- by a queue of which it is not known what it took: nothing is said of a wish
abbrev pub OrderNote : NamesData → BridgeNote → Type 0
OrderNote names (b.RecapWish sub sender) = Unit {0}
OrderNote names note = BridgeFromQueue names note

abbrev pub OrderPut : NamesData → QueuePut → Type 0
OrderPut names (queue.to_bridge note) = OrderNote names note
OrderPut names (queue.to_timers note) = TimersFromQueue names note

-- ---- the bridge

-- what it hears that names an object or asks for fids; messages and wishes may be any
abbrev pub Names : NamesData → BridgeEvent → Type 0
Names names (joins s terms tag) = IsSub names s × (terms_of names s ≡ Some terms) × (tag ≡ Sub s)
Names names (opens i terms tag) = IsInbox names i × (inbox_terms_of names i ≡ Some terms) × (tag ≡ Inbox i)
Names names (asks i topic fids) = IsInbox names i × AreFids fids
Names names _ = Unit {0}

abbrev pub IsFin : TimersNote → Type 0
IsFin t.Fin = Unit {0}
IsFin _ = ⊥

-- what it puts, where this holds of what comes out of links
module _ (names : NamesData) (A : Arrival → Type 0) (R : ReplyArrival → Type 0) where
  abbrev pub Places : QueueNote → Type 0
  Places (q.Create slot object make tag) = (slot < 2 ^ 32) × IsLinked names object × (make_of names object ≡ Some make) × (tag ≡ object)
  Places (q.Deliver slot sub msg) = (slot < 2 ^ 32) × IsSub names sub × A (Ok msg)
  Places (q.Reply slot inbox body) = (slot < 2 ^ 32) × IsInbox names inbox × R (Ok body)
  Places (q.Bad slot sub kind sender seq bytes) = (slot < 2 ^ 32) × IsSub names sub × A (Err (record { kind = kind; sender = sender; seq = seq; body = bytes }))
  Places (q.BadReply slot inbox bytes) = (slot < 2 ^ 32) × IsInbox names inbox × R (Err bytes)
  Places (q.Tick slot timer moment) = ⊥
  Places (q.Gone slot object) = (slot < 2 ^ 32) × IsLinked names object
  Places q.Fin = Unit {0}

  abbrev pub LinkPut : BridgePut → Type 0
  LinkPut (to_publisher n note) = IsPublisherNote names note
  LinkPut (to_queue k note) = Places note
  LinkPut (to_timers note) = IsFin note

-- where anything may come out
abbrev pub Any : Arrival → Type 0
Any a = Unit {0}

abbrev pub AnyReply : ReplyArrival → Type 0
AnyReply a = Unit {0}

-- ---- the timer service

abbrev pub Arms : NamesData → TimersEvent → Type 0
Arms names (arms timer queue interval tag) = IsTimer names timer × (tag ≡ Timer timer)
Arms names _ = Unit {0}

-- ---- queues

-- what a queue takes, but for slots, makes and tags
abbrev pub Takes : NamesData → QueueNote → Type 0
Takes names (q.Create slot object make tag) = IsObject names object
Takes names (q.Deliver slot sub msg) = IsSub names sub × IsSound names.nums msg
Takes names (q.Reply slot inbox body) = IsInbox names inbox × IsBody names.nums body
Takes names (q.Bad slot sub kind sender seq bytes) = IsSub names sub
Takes names (q.BadReply slot inbox bytes) = IsInbox names inbox
Takes names (q.Tick slot timer moment) = IsTimer names timer × (moment < 2 ^ 64)
Takes names (q.Gone slot object) = IsObject names object
Takes names q.Fin = Unit {0}

-- what it does
pub record IsCall (names : NamesData) (o : ObjectId) (c : Callback) (given : List Order) : Type 0 where
  pub object : IsObject names o
  pub call : MayHear names.nums o c
  pub orders : AllByRecursion (MayOrder names) given
  pub few : length given ≤ 8

abbrev pub DeedFits : NamesData → Deed → Type 0
DeedFits names (handled sub msg) = IsSound names.nums msg
DeedFits names (called object call orders) = IsCall names object call orders
