-- believed: What a log of a script may say: which notes come by which kind of port, and which callbacks an object hears.
use Rattle.std.specs.Prelude.{◌≡◌, ℕ, ◌^◌, ◌<◌, ◌≤◌, true, nat_lt, List, length, Some, IsErr}
use Rattle.std.specs.List.{list_all}
use Rattle.mama_payload.specs.Reading.{decoded}
use Rattle.mama_msg.specs.Field.{FieldData}
use Rattle.mama_event.specs.FidList.{is_fid_list}
use Rattle.mama_event.specs.declared.ids.ObjectId.{ObjectId}
use Rattle.mama_event.specs.declared.ids.ObjectId.TheVariants.{Sub, Timer, Inbox}
use Rattle.mama_event.specs.declared.market.MarketMsg.{MarketMsg}
use Rattle.mama_event.specs.declared.market.MsgKind.{MsgKind}
use Rattle.mama_event.specs.declared.market.MsgKind.TheVariants.{Update}
use Rattle.mama_event.specs.declared.order.Order.{Order}
use Rattle.mama_event.specs.declared.order.Order.TheVariants as orders
use Rattle.mama_event.specs.declared.group.GroupNote.{GroupNote}
use Rattle.mama_event.specs.declared.group.GroupNote.TheVariants as grouped
use Rattle.mama_event.specs.declared.watch.WatchNote.{WatchNote}
use Rattle.mama_event.specs.declared.watch.WatchNote.TheVariants as watched
use Rattle.mama_event.specs.declared.callback.Callback.{Callback}
use Rattle.mama_event.specs.declared.callback.Callback.TheVariants as on
use Rattle.mama_event.specs.declared.to_bridge.BridgeNote.{BridgeNote}
use Rattle.mama_event.specs.declared.to_bridge.BridgeNote.TheVariants as b
use Rattle.mama_event.specs.declared.to_publisher.PublisherNote.{PublisherNote}
use Rattle.mama_event.specs.declared.to_publisher.PublisherNote.TheVariants as p
use Rattle.mama_event.specs.declared.to_timers.TimersNote.{TimersNote}
use Rattle.mama_event.specs.declared.to_timers.TimersNote.TheVariants as t
use Rattle.mama_event.specs.declared.to_queue.QueueNote.{QueueNote}
use Rattle.mama_event.specs.declared.to_queue.QueueNote.TheVariants as q
use Rattle.mama_event.specs.declared.publisher_entry.PublisherEntry.{PublisherEntry}
use Rattle.mama_event.specs.declared.publisher_entry.PublisherEntry.TheVariants.{Took}
use Rattle.mama_words.specs.declared.nums.Nums.{Nums}
use Rattle.mama_words.specs.Field.{IsMessage}
use Rattle.mama_words.specs.Order.{are_small}
use Rattle.mama_rules_services.specs.Ports.{Putter, ByClient, ByPublisher, ByQueue, ByBridge, ByTimers, bridge_putter, timers_putter, queue_putter}
use Rattle.mama_record.specs.RunData.{LastImage}
use Rattle.mama_log_line.specs.Names.{NamesData, terms_of, timer_terms_of, inbox_terms_of, make_of, IsSub, IsTimer, IsInbox, IsTopic}

-- fids that can be asked for, as their type has them
pub record AreFids (fids : List ℕ) : Type 0 where
  pub list : is_fid_list fids ≡ true
  pub small : are_small fids ≡ true

-- fields of a message that the text knows, of which there are at most 64
pub record IsBody (nums : Nums) (body : List FieldData) : Type 0 where
  pub message : IsMessage nums body
  pub few : length body ≤ 64

-- a message of the market, as its type has it
pub record IsMarketMsg (nums : Nums) (m : MarketMsg) : Type 0 where
  pub sender : m.sender < 2 ^ 32
  pub seq : m.seq < 2 ^ 32
  pub body : IsBody nums m.body

-- PUBLISHERS

-- the whole record alone is asked for
abbrev pub IsWanted : MsgKind → Type 0
IsWanted Update = ⊥
IsWanted _ = Unit {0}

abbrev pub IsPublisherNote : NamesData → PublisherNote → Type 0
IsPublisherNote names (p.Want sub kind) = IsSub names sub × IsWanted kind
IsPublisherNote names (p.Ask inbox fids) = IsInbox names inbox × AreFids fids
IsPublisherNote names _ = Unit {0}

-- an entry that a publisher's journal may have
abbrev pub MayEnterPublisher : NamesData → PublisherEntry → Type 0
MayEnterPublisher names (Took note) = IsPublisherNote names note
MayEnterPublisher names _ = Unit {0}

-- THE BRIDGE

-- what a client puts on the bridge's lane. The terms are those of the script's line with the id.
abbrev pub BridgeFromClient : NamesData → BridgeNote → Type 0
BridgeFromClient names (b.Join sub terms tag) = IsSub names sub × (terms_of names sub ≡ Some terms) × (tag ≡ Sub sub)
BridgeFromClient names (b.Leave sub) = IsSub names sub
BridgeFromClient names (b.OpenInbox inbox terms tag) = IsInbox names inbox × (inbox_terms_of names inbox ≡ Some terms) × (tag ≡ Inbox inbox)
BridgeFromClient names (b.CloseInbox inbox) = IsInbox names inbox
BridgeFromClient names (b.Ask inbox topic fids) = IsInbox names inbox × IsTopic names topic × AreFids fids
BridgeFromClient names b.ClientDone = Unit {0}
BridgeFromClient names _ = ⊥

abbrev pub BridgeFromPublisher : NamesData → BridgeNote → Type 0
BridgeFromPublisher names (b.Publish msg) = IsMarketMsg names.nums msg
BridgeFromPublisher names (b.Image sub msg) = IsSub names sub × IsMarketMsg names.nums msg
BridgeFromPublisher names (b.Reply inbox body) = IsInbox names inbox × IsBody names.nums body
BridgeFromPublisher names b.SendsDone = Unit {0}
BridgeFromPublisher names b.Settled = Unit {0}
BridgeFromPublisher names _ = ⊥

abbrev pub BridgeFromQueue : NamesData → BridgeNote → Type 0
BridgeFromQueue names (b.Leave sub) = IsSub names sub
BridgeFromQueue names (b.CloseInbox inbox) = IsInbox names inbox
BridgeFromQueue names (b.Ask inbox topic fids) = IsInbox names inbox × IsTopic names topic × AreFids fids
BridgeFromQueue names (b.RecapWish sub sender) = IsSub names sub × (sender < 2 ^ 32)
BridgeFromQueue names b.Bye = Unit {0}
BridgeFromQueue names _ = ⊥

abbrev pub BridgeFrom : NamesData → Putter → BridgeNote → Type 0
BridgeFrom names (ByClient c) note = BridgeFromClient names note
BridgeFrom names (ByPublisher n) note = BridgeFromPublisher names note
BridgeFrom names (ByQueue n) note = BridgeFromQueue names note
BridgeFrom names _ note = ⊥

-- an entry that the bridge's journal may have: a port of its lane, and a note that the actor behind it puts
pub record MayEnterBridge (names : NamesData) (e : ℕ × BridgeNote) : Type 0 where
  pub port : e.0 < 2 ^ 32
  pub note : BridgeFrom names (bridge_putter names.shape e.0) e.1

-- THE TIMERS

abbrev pub TimersFromClient : NamesData → TimersNote → Type 0
TimersFromClient names (t.Arm timer queue interval tag) =
    IsTimer names timer × (timer_terms_of names timer ≡ Some (record { queue = queue; interval = interval })) × (tag ≡ Timer timer)
TimersFromClient names (t.Disarm timer) = IsTimer names timer
TimersFromClient names (t.Now moment) = moment < 2 ^ 64
TimersFromClient names t.ClientDone = Unit {0}
TimersFromClient names _ = ⊥

abbrev pub TimersFromQueue : NamesData → TimersNote → Type 0
TimersFromQueue names (t.Disarm timer) = IsTimer names timer
TimersFromQueue names t.Bye = Unit {0}
TimersFromQueue names _ = ⊥

abbrev pub TimersFromBridge : TimersNote → Type 0
TimersFromBridge t.Fin = Unit {0}
TimersFromBridge _ = ⊥

abbrev pub TimersFrom : NamesData → Putter → TimersNote → Type 0
TimersFrom names (ByClient c) note = TimersFromClient names note
TimersFrom names (ByQueue n) note = TimersFromQueue names note
TimersFrom names ByBridge note = TimersFromBridge note
TimersFrom names _ note = ⊥

-- an entry that the timer service's journal may have
pub record MayEnterTimers (names : NamesData) (e : ℕ × TimersNote) : Type 0 where
  pub port : e.0 < 2 ^ 32
  pub note : TimersFrom names (timers_putter names.shape e.0) e.1

-- QUEUES

-- an object that the bridge makes
abbrev pub IsLinked : NamesData → ObjectId → Type 0
IsLinked names (Sub id) = IsSub names id
IsLinked names (Timer id) = ⊥
IsLinked names (Inbox id) = IsInbox names id

-- an object that the timer service makes
abbrev pub IsTimed : NamesData → ObjectId → Type 0
IsTimed names (Timer id) = IsTimer names id
IsTimed names _ = ⊥

-- bytes that spell no message, in either version of payloads
pub record IsBroken (bytes : List ℕ) : Type 0 where
  pub each : list_all (λ b. nat_lt b (2 ^ 8)) bytes ≡ true
  pub broken : IsErr (decoded bytes)

abbrev pub QueueFromBridge : NamesData → QueueNote → Type 0
QueueFromBridge names (q.Create slot object make tag) = (slot < 2 ^ 32) × IsLinked names object × (make_of names object ≡ Some make) × (tag ≡ object)
QueueFromBridge names (q.Deliver slot sub msg) = (slot < 2 ^ 32) × IsSub names sub × IsMarketMsg names.nums msg
QueueFromBridge names (q.Reply slot inbox body) = (slot < 2 ^ 32) × IsInbox names inbox × IsBody names.nums body
QueueFromBridge names (q.Bad slot sub kind sender seq bytes) = (slot < 2 ^ 32) × IsSub names sub × (sender < 2 ^ 32) × (seq < 2 ^ 32) × IsBroken bytes
QueueFromBridge names (q.BadReply slot inbox bytes) = (slot < 2 ^ 32) × IsInbox names inbox × IsBroken bytes
QueueFromBridge names (q.Gone slot object) = (slot < 2 ^ 32) × IsLinked names object
QueueFromBridge names q.Fin = Unit {0}
QueueFromBridge names _ = ⊥

abbrev pub QueueFromTimers : NamesData → QueueNote → Type 0
QueueFromTimers names (q.Create slot object make tag) = (slot < 2 ^ 32) × IsTimed names object × (make_of names object ≡ Some make) × (tag ≡ object)
QueueFromTimers names (q.Tick slot timer moment) = (slot < 2 ^ 32) × IsTimer names timer × (moment < 2 ^ 64)
QueueFromTimers names (q.Gone slot object) = (slot < 2 ^ 32) × IsTimed names object
QueueFromTimers names q.Fin = Unit {0}
QueueFromTimers names _ = ⊥

abbrev pub QueueFrom : NamesData → Putter → QueueNote → Type 0
QueueFrom names ByBridge note = QueueFromBridge names note
QueueFrom names ByTimers note = QueueFromTimers names note
QueueFrom names _ note = ⊥

-- an entry that a queue's journal may have
abbrev pub MayEnterQueue : NamesData → ℕ × QueueNote → Type 0
MayEnterQueue names e = QueueFrom names (queue_putter e.0) e.1

-- CALLBACKS, ORDERS AND IMAGES

abbrev pub SubHears : Nums → Callback → Type 0
SubHears nums on.Create = Unit {0}
SubHears nums (on.Msg msg quality) = IsMarketMsg nums msg
SubHears nums (on.Gap first to) = (first < 2 ^ 32) × (to < 2 ^ 32)
SubHears nums (on.Quality quality number) = number < 2 ^ 32
SubHears nums (on.RecapRequest sender) = sender < 2 ^ 32
SubHears nums (on.Late sender seq) = (sender < 2 ^ 32) × (seq < 2 ^ 32)
SubHears nums (on.Error code) = code < 2 ^ 8
SubHears nums on.Destroy = Unit {0}
SubHears nums _ = ⊥

abbrev pub TimerHears : Callback → Type 0
TimerHears on.Create = Unit {0}
TimerHears (on.Tick moment) = moment < 2 ^ 64
TimerHears on.Destroy = Unit {0}
TimerHears _ = ⊥

abbrev pub InboxHears : Nums → Callback → Type 0
InboxHears nums on.Create = Unit {0}
InboxHears nums (on.Reply body) = IsBody nums body
InboxHears nums (on.Error code) = code < 2 ^ 8
InboxHears nums on.Destroy = Unit {0}
InboxHears nums _ = ⊥

-- a callback that an object of this kind hears
abbrev pub MayHear : Nums → ObjectId → Callback → Type 0
MayHear nums (Sub id) call = SubHears nums call
MayHear nums (Timer id) call = TimerHears call
MayHear nums (Inbox id) call = InboxHears nums call

-- an order that a listener may give: its object and its topic are the script's
abbrev pub MayOrder : NamesData → Order → Type 0
MayOrder names (orders.Stop id) = IsSub names id
MayOrder names (orders.Disarm id) = IsTimer names id
MayOrder names (orders.Close id) = IsInbox names id
MayOrder names (orders.Ask inbox topic fids) = IsInbox names inbox × IsTopic names topic × AreFids fids

-- what a group may hear: a callback of a subscription of the script, whether it is a member or not, or a state
abbrev pub MayHearGroup : NamesData → GroupNote → Type 0
MayHearGroup names (grouped.Call sub call) = IsSub names sub × SubHears names.nums call
MayHearGroup names (grouped.State _) = Unit {0}

-- what a watch may note
abbrev pub MayNote : WatchNote → Type 0
MayNote (watched.Retry count moment) = (count < 2 ^ 32) × (moment < 2 ^ 64)
MayNote (watched.Timeout moment) = moment < 2 ^ 64

-- the last image of a subscription. It may have more than 64 fields.
pub record IsLastImage (names : NamesData) (i : LastImage) : Type 0 where
  pub sub : IsSub names i.sub
  pub sender : i.head.sender < 2 ^ 32
  pub last : i.head.last < 2 ^ 32
  pub body : IsMessage names.nums i.body
