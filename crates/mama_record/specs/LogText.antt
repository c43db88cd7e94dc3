-- believed: The text of a log: the record of a run, line by line, in either version. Each line is ended by one LF.
use Rattle.std.specs.Prelude.{ℕ, suc, List, [], ◌∷◌, ◌++◌, length, map, codes}
use Rattle.std.specs.List.{flat_map}
use Rattle.mama_edge.specs.Decimal.{decimal}
use Rattle.mama_words.specs.Id.{sub_text, timer_text, inbox_text, object_text}
use Rattle.mama_words.specs.Kind.{msg_kind_text, quality_text, strategy_text, group_state_text}
use Rattle.mama_words.specs.declared.version.Version.{Version}
use Rattle.mama_words.specs.declared.version.Version.TheVariants as version
use Rattle.mama_words.specs.Value.{bytes_text}
use Rattle.mama_words.specs.Field.{fields_text}
use Rattle.mama_words.specs.Order.{order_text, word_of, spaced_number}
use Rattle.mama_event.specs.declared.ids.SubId.{SubId}
use Rattle.mama_event.specs.declared.shape.Shape.{Shape}
use Rattle.mama_event.specs.declared.shape.Strategy.{Strategy}
use Rattle.mama_event.specs.declared.market.MarketMsg.{MarketMsg}
use Rattle.mama_event.specs.declared.market.Quality.{Quality}
use Rattle.mama_event.specs.declared.market.ImageHead.{ImageHead}
use Rattle.mama_event.specs.declared.order.Order.{Order}
use Rattle.mama_event.specs.declared.callback.Callback.{Callback}
use Rattle.mama_event.specs.declared.callback.Callback.TheVariants as on
use Rattle.mama_event.specs.declared.callback.CallNote.{CallNote}
use Rattle.mama_event.specs.declared.to_bridge.BridgeNote.{BridgeNote}
use Rattle.mama_event.specs.declared.to_bridge.BridgeNote.TheVariants as b
use Rattle.mama_event.specs.declared.to_publisher.PublisherNote.{PublisherNote}
use Rattle.mama_event.specs.declared.to_publisher.PublisherNote.TheVariants as p
use Rattle.mama_event.specs.declared.to_timers.TimersNote.{TimersNote}
use Rattle.mama_event.specs.declared.to_timers.TimersNote.TheVariants as t
use Rattle.mama_event.specs.declared.to_queue.QueueNote.{QueueNote}
use Rattle.mama_event.specs.declared.to_queue.QueueNote.TheVariants as q
use Rattle.mama_event.specs.declared.publisher_entry.PublisherEntry.{PublisherEntry}
use Rattle.mama_event.specs.declared.publisher_entry.PublisherEntry.TheVariants.{Send, Done, Took}
use Rattle.mama_rules_services.specs.Ports.{Putter, ByClient, ByPublisher, ByQueue, ByBridge, ByTimers, ByNobody, bridge_putter, timers_putter, queue_putter}
use Rattle.mama_event.specs.declared.group.GroupNote.{GroupNote}
use Rattle.mama_event.specs.declared.group.GroupNote.TheVariants as grouped
use Rattle.mama_event.specs.declared.watch.WatchNote.{WatchNote}
use Rattle.mama_event.specs.declared.watch.WatchNote.TheVariants as watched
use Rattle.mama_record.specs.RunData.{RunData, ObjectCalls, LastImage, GroupNotes, WatchNotes}

-- a line of this text
abbrev pub line : List ℕ → List ℕ
line text = text ++ 10 ∷ []

-- the text of some lines, each ended by one LF
abbrev pub lines_text : List (List ℕ) → List ℕ
lines_text lines = flat_map line lines

-- who put an event
abbrev pub putter_text : Putter → List ℕ
putter_text (ByClient c) = 99 ∷ decimal c
putter_text (ByPublisher p) = 112 ∷ decimal p
putter_text (ByQueue q) = 113 ∷ decimal q
putter_text ByBridge = codes "b"
putter_text ByTimers = codes "t"
putter_text ByNobody = []

-- KIND SENDER SEQ FIELDS
abbrev pub msg_text : MarketMsg → List ℕ
msg_text m = msg_kind_text m.kind ++ spaced_number m.sender ++ spaced_number m.seq ++ fields_text m.body

-- THE NOTES OF THE JOURNALS

abbrev pub bridge_note_text : BridgeNote → List ℕ
bridge_note_text (b.Join sub terms tag) = codes "join " ++ sub_text sub
bridge_note_text (b.Leave sub) = codes "leave " ++ sub_text sub
bridge_note_text (b.OpenInbox inbox terms tag) = codes "open " ++ inbox_text inbox
bridge_note_text (b.CloseInbox inbox) = codes "close " ++ inbox_text inbox
bridge_note_text (b.Ask inbox topic fids) = codes "ask " ++ inbox_text inbox ++ spaced_number topic ++ flat_map spaced_number fids
bridge_note_text (b.Publish msg) = codes "publish " ++ msg_text msg
bridge_note_text (b.Image sub msg) = codes "image " ++ sub_text sub ++ 32 ∷ msg_text msg
bridge_note_text (b.Reply inbox body) = codes "reply " ++ inbox_text inbox ++ fields_text body
bridge_note_text (b.RecapWish sub sender) = codes "recap " ++ sub_text sub ++ spaced_number sender
bridge_note_text b.ClientDone = codes "done"
bridge_note_text b.SendsDone = codes "done"
bridge_note_text b.Settled = codes "settled"
bridge_note_text b.Bye = codes "bye"

abbrev pub timers_note_text : TimersNote → List ℕ
timers_note_text (t.Arm timer queue interval tag) = codes "arm " ++ timer_text timer
timers_note_text (t.Disarm timer) = codes "disarm " ++ timer_text timer
timers_note_text (t.Now moment) = codes "now " ++ decimal moment
timers_note_text t.ClientDone = codes "done"
timers_note_text t.Bye = codes "bye"
timers_note_text t.Fin = codes "fin"

abbrev pub queue_note_text : QueueNote → List ℕ
queue_note_text (q.Create slot object make tag) = codes "create " ++ decimal slot ++ 32 ∷ object_text object
queue_note_text (q.Deliver slot sub msg) = codes "data " ++ decimal slot ++ 32 ∷ sub_text sub ++ 32 ∷ msg_text msg
queue_note_text (q.Reply slot inbox body) = codes "reply " ++ decimal slot ++ 32 ∷ inbox_text inbox ++ fields_text body
queue_note_text (q.Bad slot sub kind sender seq bytes) =
    codes "bad " ++ decimal slot ++ 32 ∷ sub_text sub ++ 32 ∷ msg_kind_text kind ++ spaced_number sender ++ spaced_number seq ++ 32 ∷ bytes_text bytes
queue_note_text (q.BadReply slot inbox bytes) = codes "badreply " ++ decimal slot ++ 32 ∷ inbox_text inbox ++ 32 ∷ bytes_text bytes
queue_note_text (q.Tick slot timer moment) = codes "tick " ++ decimal slot ++ 32 ∷ timer_text timer ++ 32 ∷ decimal moment
queue_note_text (q.Gone slot object) = codes "gone " ++ decimal slot ++ 32 ∷ object_text object
queue_note_text q.Fin = codes "fin"

abbrev pub publisher_note_text : PublisherNote → List ℕ
publisher_note_text (p.Want sub kind) = codes "want " ++ sub_text sub ++ 32 ∷ msg_kind_text kind
publisher_note_text (p.Ask inbox fids) = codes "ask " ++ inbox_text inbox ++ flat_map spaced_number fids
publisher_note_text p.Settle = codes "settle"
publisher_note_text p.Fin = codes "fin"

abbrev pub publisher_entry_text : PublisherEntry → List ℕ
publisher_entry_text Send = codes "send"
publisher_entry_text Done = codes "done"
publisher_entry_text (Took note) = publisher_note_text note

-- an entry that came by a port: who put it, and its note
abbrev pub bridge_entry_text : Shape → ℕ × BridgeNote → List ℕ
bridge_entry_text shape e = putter_text (bridge_putter shape e.0) ++ 32 ∷ bridge_note_text e.1

abbrev pub timers_entry_text : Shape → ℕ × TimersNote → List ℕ
timers_entry_text shape e = putter_text (timers_putter shape e.0) ++ 32 ∷ timers_note_text e.1

abbrev pub queue_entry_text : ℕ × QueueNote → List ℕ
queue_entry_text e = putter_text (queue_putter e.0) ++ 32 ∷ queue_note_text e.1

-- the line of an entry of each journal
abbrev pub publisher_entry_line : PublisherEntry → List ℕ
publisher_entry_line e = line (publisher_entry_text e)

abbrev pub bridge_entry_line : Shape → ℕ × BridgeNote → List ℕ
bridge_entry_line shape e = line (bridge_entry_text shape e)

abbrev pub timers_entry_line : Shape → ℕ × TimersNote → List ℕ
timers_entry_line shape e = line (timers_entry_text shape e)

abbrev pub queue_entry_line : ℕ × QueueNote → List ℕ
queue_entry_line e = line (queue_entry_text e)

-- CALLBACKS

abbrev pub msg_callback_text : MarketMsg → Quality → List ℕ
msg_callback_text m quality =
    codes "msg " ++ msg_kind_text m.kind ++ spaced_number m.sender ++ spaced_number m.seq ++ 32 ∷ quality_text quality ++ fields_text m.body

abbrev pub callback_text : Callback → List ℕ
callback_text on.Create = codes "create"
callback_text (on.Msg msg quality) = msg_callback_text msg quality
callback_text (on.Gap first to) = codes "gap " ++ decimal first ++ spaced_number to
callback_text (on.Quality quality number) = codes "quality " ++ quality_text quality ++ spaced_number number
callback_text (on.RecapRequest sender) = codes "request " ++ decimal sender
callback_text (on.Late sender seq) = codes "late " ++ decimal sender ++ spaced_number seq
callback_text (on.Error code) = codes "error " ++ decimal code
callback_text on.Destroy = codes "destroy"
callback_text (on.Tick moment) = codes "tick " ++ decimal moment
callback_text (on.Reply body) = codes "reply" ++ fields_text body

abbrev pub given_text : Order → List ℕ
given_text o = codes "order " ++ order_text (word_of o)

abbrev pub order_line : Order → List ℕ
order_line o = line (given_text o)

-- the lines of a callback and its orders
abbrev pub call_texts : CallNote → List (List ℕ)
call_texts c = callback_text c.call ∷ map given_text c.orders

-- GROUPS AND WATCHES

abbrev pub group_note_text : GroupNote → List ℕ
group_note_text (grouped.Call sub call) = sub_text sub ++ 32 ∷ callback_text call
group_note_text (grouped.State now) = codes "state " ++ group_state_text now

abbrev pub watch_note_text : WatchNote → List ℕ
watch_note_text (watched.Retry count moment) = codes "retry " ++ decimal count ++ 32 ∷ decimal moment
watch_note_text (watched.Timeout moment) = codes "timeout " ++ decimal moment

abbrev pub group_note_line : GroupNote → List ℕ
group_note_line note = line (group_note_text note)

abbrev pub watch_note_line : WatchNote → List ℕ
watch_note_line note = line (watch_note_text note)

-- IMAGES

abbrev pub image_head_text : SubId → ImageHead → List ℕ
image_head_text sub head = sub_text sub ++ 32 ∷ quality_text head.quality ++ spaced_number head.sender ++ spaced_number head.last

abbrev pub image_text : LastImage → List ℕ
image_text i = image_head_text i.sub i.head ++ fields_text i.body

abbrev pub image_line : LastImage → List ℕ
image_line i = line (image_text i)

-- CLOCKS

abbrev pub clock_text : ℕ → List ℕ
clock_text moment = codes "clock " ++ decimal moment

abbrev pub clock_line : ℕ → List ℕ
clock_line moment = line (clock_text moment)

-- SECTIONS

-- a section of a log: the line that begins it, and the lines behind it, each without its LF
pub record LogSection : Type 0 where
  pub head : List ℕ
  pub lines : List (List ℕ)

abbrev pub client_section : ℕ → List ℕ → LogSection
client_section n moments = record { head = codes "client " ++ decimal n; lines = map clock_text moments }

abbrev pub publisher_section : ℕ → List PublisherEntry → LogSection
publisher_section n journal = record { head = codes "publisher " ++ decimal n; lines = map publisher_entry_text journal }

abbrev pub bridge_section : Shape → List (ℕ × BridgeNote) → LogSection
bridge_section shape journal = record { head = codes "bridge"; lines = map (bridge_entry_text shape) journal }

abbrev pub timers_section : Shape → List (ℕ × TimersNote) → LogSection
timers_section shape journal = record { head = codes "timers"; lines = map (timers_entry_text shape) journal }

abbrev pub queue_section : ℕ → List (ℕ × QueueNote) → LogSection
queue_section n journal = record { head = codes "queue " ++ decimal n; lines = map queue_entry_text journal }

abbrev pub object_section : ObjectCalls → LogSection
object_section o = record { head = codes "on " ++ object_text o.object; lines = flat_map call_texts o.calls }

abbrev pub group_section : GroupNotes → LogSection
group_section g = record { head = codes "group " ++ decimal g.group; lines = map group_note_text g.notes }

abbrev pub watch_section : WatchNotes → LogSection
watch_section w = record { head = codes "watch " ++ decimal w.watch; lines = map watch_note_text w.notes }

abbrev pub images_section : List LastImage → LogSection
images_section images = record { head = codes "images"; lines = map image_text images }

-- the sections of a list that are numbered from n
abbrev pub numbered : {A : Type 0} → (ℕ → A → LogSection) → ℕ → List A → List LogSection
numbered section n [] = []
numbered section n (x ∷ xs) = section n x ∷ numbered section (suc n) xs

-- the sections of a record's log, for a system of this shape. Only a record of a script of version 2 has groups and watches.
abbrev pub log_sections : Shape → RunData → List LogSection
log_sections shape run =
    numbered client_section 0 run.clients
    ++ (numbered publisher_section 0 run.publishers
    ++ (bridge_section shape run.bridge ∷ timers_section shape run.timers
    ∷ (numbered queue_section 0 run.queues
    ++ (map object_section run.calls
    ++ (map group_section run.groups
    ++ (map watch_section run.watches
    ++ images_section run.images ∷ []))))))

-- VERSIONS

-- version 2 tells behind the first line of a section how many lines follow
abbrev pub told : Version → ℕ → List ℕ
told version.One count = []
told version.Two count = 32 ∷ decimal count

-- the lines of a section. Those of version 2 are those of version 1, with their number told.
abbrev pub counted : Version → LogSection → List (List ℕ)
counted v s = (s.head ++ told v (length s.lines)) ∷ s.lines

-- the lines before the sections: version 2 tells the strategy
abbrev pub title : Version → Strategy → List (List ℕ)
title version.One strategy = codes "mama log 1" ∷ []
title version.Two strategy = codes "mama log 2" ∷ (codes "strategy " ++ strategy_text strategy) ∷ []

-- the lines of the log of a run in a version
abbrev pub log_lines : Version → Shape → RunData → List (List ℕ)
log_lines v shape run = title v shape.strategy ++ (flat_map (counted v) (log_sections shape run) ++ codes "end" ∷ [])

-- the log of a run in a version
abbrev pub log_text : Version → Shape → RunData → List ℕ
log_text v shape run = lines_text (log_lines v shape run)
