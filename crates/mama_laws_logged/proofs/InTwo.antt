-- A record of a script is one of the same script in version 2.
use Rattle.std.proofs.Common.{◌≡◌, ℕ, List, Some}
use Rattle.std.specs.List.{All}
use Rattle.std.proofs.lemmas.List.Elements.{All-weaker}
use Rattle.mama_msg.specs.Field.{FieldData}
use Rattle.mama_event.specs.declared.ids.SubId.{SubId}
use Rattle.mama_event.specs.declared.ids.TimerId.{TimerId}
use Rattle.mama_event.specs.declared.ids.InboxId.{InboxId}
use Rattle.mama_event.specs.declared.ids.ObjectId.{ObjectId}
use Rattle.mama_event.specs.declared.ids.ObjectId.TheVariants.{Sub, Timer, Inbox}
use Rattle.mama_event.specs.declared.market.MarketMsg.{MarketMsg}
use Rattle.mama_event.specs.declared.callback.Callback.{Callback}
use Rattle.mama_event.specs.declared.callback.Callback.TheVariants as on
use Rattle.mama_event.specs.declared.callback.CallNote.{CallNote}
use Rattle.mama_event.specs.declared.order.Order.{Order}
use Rattle.mama_event.specs.declared.order.Order.TheVariants as orders
use Rattle.mama_event.specs.declared.group.GroupNote.{GroupNote}
use Rattle.mama_event.specs.declared.group.GroupNote.TheVariants as grouped
use Rattle.mama_event.specs.declared.to_publisher.PublisherNote.{PublisherNote}
use Rattle.mama_event.specs.declared.to_publisher.PublisherNote.TheVariants as p
use Rattle.mama_event.specs.declared.to_bridge.BridgeNote.{BridgeNote}
use Rattle.mama_event.specs.declared.to_bridge.BridgeNote.TheVariants as b
use Rattle.mama_event.specs.declared.to_timers.TimersNote.{TimersNote}
use Rattle.mama_event.specs.declared.to_timers.TimersNote.TheVariants as t
use Rattle.mama_event.specs.declared.to_queue.Make.{Make}
use Rattle.mama_event.specs.declared.to_queue.QueueNote.{QueueNote}
use Rattle.mama_event.specs.declared.to_queue.QueueNote.TheVariants as q
use Rattle.mama_event.specs.declared.publisher_entry.PublisherEntry.{PublisherEntry}
use Rattle.mama_event.specs.declared.publisher_entry.PublisherEntry.TheVariants as entry
use Rattle.mama_words.specs.declared.nums.Nums.{Nums}
use Rattle.mama_words.specs.declared.nums.Nums.TheVariants.{Known}
use Rattle.mama_words.proofs.FieldLaws.{message_known}
use Rattle.mama_script.specs.Script.{ScriptData}
use Rattle.mama_script.specs.Tree.{in_two}
use Rattle.mama_rules_services.specs.Ports.{Putter, ByClient, ByPublisher, ByQueue, ByBridge, ByTimers, ByNobody, bridge_putter, timers_putter, queue_putter}
use Rattle.mama_record.specs.RunData.{RunData, ObjectCalls, LastImage, GroupNotes}
use Rattle.mama_rules_legal.specs.Form.{IsFormed}
use Rattle.mama_rules_legal.specs.Legal.{IsLegal}
use Rattle.mama_log_line.specs.Names.{NamesData, IsSub, IsTimer, IsInbox, IsTopic, names_of, make_of}
use Rattle.mama_log_line.specs.Entering.{IsBody, IsMarketMsg, IsPublisherNote, MayEnterPublisher, BridgeFromClient, BridgeFromPublisher, BridgeFromQueue, BridgeFrom, MayEnterBridge, TimersFromClient, TimersFromQueue, TimersFrom, MayEnterTimers, IsLinked, IsTimed, QueueFromBridge, QueueFromTimers, QueueFrom, MayEnterQueue, SubHears, InboxHears, MayHear, MayOrder, MayHearGroup, IsLastImage}
use Rattle.mama_log_read.specs.Logged.{MayCall, MayHearAll, MayHearNotes, IsLogged}
use Rattle.mama_laws_logged.specs.InTwo.{RecordsStayInTwo}

-- ---- messages

body_two : (nums : Nums) (body : List FieldData) → IsBody nums body → IsBody Known body
body_two nums body h = record { message = message_known nums body h.message; few = h.few }

msg_two : (nums : Nums) (m : MarketMsg) → IsMarketMsg nums m → IsMarketMsg Known m
msg_two nums m h = record { sender = h.sender; seq = h.seq; body = body_two nums m.body h.body }

-- ---- what names name, whatever they know of lists of numbers

abbrev known : NamesData → NamesData
known names = record names { nums = Known }

module _ (names : NamesData) where
  sub_two : (id : SubId) → IsSub names id → IsSub (known names) id
  sub_two id h = record { client = h.client; number = h.number; declared = h.declared }

  timer_two : (id : TimerId) → IsTimer names id → IsTimer (known names) id
  timer_two id h = record { client = h.client; number = h.number; declared = h.declared }

  inbox_two : (id : InboxId) → IsInbox names id → IsInbox (known names) id
  inbox_two id h = record { client = h.client; number = h.number; declared = h.declared }

  topic_two : (topic : ℕ) → IsTopic names topic → IsTopic (known names) topic
  topic_two topic h = record { number = h.number; declared = h.declared }

  -- ---- entries

  publisher_note_two : (note : PublisherNote) → IsPublisherNote names note → IsPublisherNote (known names) note
  publisher_note_two (p.Want sub kind) h = (sub_two sub h.0, h.1)
  publisher_note_two (p.Ask inbox fids) h = (inbox_two inbox h.0, h.1)
  publisher_note_two _ h = tt

  pub publisher_two : (e : PublisherEntry) → MayEnterPublisher names e → MayEnterPublisher (known names) e
  publisher_two (entry.Took note) h = publisher_note_two note h
  publisher_two _ h = tt

  bridge_client_two : (note : BridgeNote) → BridgeFromClient names note → BridgeFromClient (known names) note
  bridge_client_two (b.Join sub terms tag) h = (sub_two sub h.0, h.1, h.2)
  bridge_client_two (b.Leave sub) h = sub_two sub h
  bridge_client_two (b.OpenInbox inbox terms tag) h = (inbox_two inbox h.0, h.1, h.2)
  bridge_client_two (b.CloseInbox inbox) h = inbox_two inbox h
  bridge_client_two (b.Ask inbox topic fids) h = (inbox_two inbox h.0, topic_two topic h.1, h.2)
  bridge_client_two b.ClientDone h = tt
  bridge_client_two _ h = absurd h

  bridge_publisher_two : (note : BridgeNote) → BridgeFromPublisher names note → BridgeFromPublisher (known names) note
  bridge_publisher_two (b.Publish msg) h = msg_two names.nums msg h
  bridge_publisher_two (b.Image sub msg) h = (sub_two sub h.0, msg_two names.nums msg h.1)
  bridge_publisher_two (b.Reply inbox body) h = (inbox_two inbox h.0, body_two names.nums body h.1)
  bridge_publisher_two b.SendsDone h = tt
  bridge_publisher_two b.Settled h = tt
  bridge_publisher_two _ h = absurd h

  bridge_queue_two : (note : BridgeNote) → BridgeFromQueue names note → BridgeFromQueue (known names) note
  bridge_queue_two (b.Leave sub) h = sub_two sub h
  bridge_queue_two (b.CloseInbox inbox) h = inbox_two inbox h
  bridge_queue_two (b.Ask inbox topic fids) h = (inbox_two inbox h.0, topic_two topic h.1, h.2)
  bridge_queue_two (b.RecapWish sub sender) h = (sub_two sub h.0, h.1)
  bridge_queue_two b.Bye h = tt
  bridge_queue_two _ h = absurd h

  bridge_from_two : (putter : Putter) (note : BridgeNote) → BridgeFrom names putter note → BridgeFrom (known names) putter note
  bridge_from_two (ByClient c) note h = bridge_client_two note h
  bridge_from_two (ByPublisher n) note h = bridge_publisher_two note h
  bridge_from_two (ByQueue n) note h = bridge_queue_two note h
  bridge_from_two ByBridge note h = absurd h
  bridge_from_two ByTimers note h = absurd h
  bridge_from_two ByNobody note h = absurd h

  pub bridge_two : (e : ℕ × BridgeNote) → MayEnterBridge names e → MayEnterBridge (known names) e
  bridge_two e h = record { port = h.port; note = bridge_from_two (bridge_putter names.shape e.0) e.1 h.note }

  timers_client_two : (note : TimersNote) → TimersFromClient names note → TimersFromClient (known names) note
  timers_client_two (t.Arm timer queue interval tag) h = (timer_two timer h.0, h.1, h.2)
  timers_client_two (t.Disarm timer) h = timer_two timer h
  timers_client_two (t.Now moment) h = h
  timers_client_two t.ClientDone h = tt
  timers_client_two _ h = absurd h

  timers_queue_two : (note : TimersNote) → TimersFromQueue names note → TimersFromQueue (known names) note
  timers_queue_two (t.Disarm timer) h = timer_two timer h
  timers_queue_two t.Bye h = tt
  timers_queue_two _ h = absurd h

  timers_from_two : (putter : Putter) (note : TimersNote) → TimersFrom names putter note → TimersFrom (known names) putter note
  timers_from_two (ByClient c) note h = timers_client_two note h
  timers_from_two (ByQueue n) note h = timers_queue_two note h
  timers_from_two ByBridge note h = h
  timers_from_two (ByPublisher n) note h = absurd h
  timers_from_two ByTimers note h = absurd h
  timers_from_two ByNobody note h = absurd h

  pub timers_two : (e : ℕ × TimersNote) → MayEnterTimers names e → MayEnterTimers (known names) e
  timers_two e h = record { port = h.port; note = timers_from_two (timers_putter names.shape e.0) e.1 h.note }

  linked_two : (object : ObjectId) → IsLinked names object → IsLinked (known names) object
  linked_two (Sub id) h = sub_two id h
  linked_two (Timer id) h = absurd h
  linked_two (Inbox id) h = inbox_two id h

  timed_two : (object : ObjectId) → IsTimed names object → IsTimed (known names) object
  timed_two (Sub id) h = absurd h
  timed_two (Timer id) h = timer_two id h
  timed_two (Inbox id) h = absurd h

  make_is : (object : ObjectId) (make : Make) → make_of names object ≡ Some make → make_of (known names) object ≡ Some make
  make_is (Sub id) make h = h
  make_is (Timer id) make h = h
  make_is (Inbox id) make h = h

  queue_bridge_two : (note : QueueNote) → QueueFromBridge names note → QueueFromBridge (known names) note
  queue_bridge_two (q.Create slot object make tag) h = (h.0, linked_two object h.1, make_is object make h.2, h.3)
  queue_bridge_two (q.Deliver slot sub msg) h = (h.0, sub_two sub h.1, msg_two names.nums msg h.2)
  queue_bridge_two (q.Reply slot inbox body) h = (h.0, inbox_two inbox h.1, body_two names.nums body h.2)
  queue_bridge_two (q.Bad slot sub kind sender seq bytes) h = (h.0, sub_two sub h.1, h.2, h.3, h.4)
  queue_bridge_two (q.BadReply slot inbox bytes) h = (h.0, inbox_two inbox h.1, h.2)
  queue_bridge_two (q.Gone slot object) h = (h.0, linked_two object h.1)
  queue_bridge_two q.Fin h = tt
  queue_bridge_two _ h = absurd h

  queue_timers_two : (note : QueueNote) → QueueFromTimers names note → QueueFromTimers (known names) note
  queue_timers_two (q.Create slot object make tag) h = (h.0, timed_two object h.1, make_is object make h.2, h.3)
  queue_timers_two (q.Tick slot timer moment) h = (h.0, timer_two timer h.1, h.2)
  queue_timers_two (q.Gone slot object) h = (h.0, timed_two object h.1)
  queue_timers_two q.Fin h = tt
  queue_timers_two _ h = absurd h

  queue_from_two : (putter : Putter) (note : QueueNote) → QueueFrom names putter note → QueueFrom (known names) putter note
  queue_from_two ByBridge note h = queue_bridge_two note h
  queue_from_two ByTimers note h = queue_timers_two note h
  queue_from_two (ByClient c) note h = absurd h
  queue_from_two (ByPublisher n) note h = absurd h
  queue_from_two (ByQueue n) note h = absurd h
  queue_from_two ByNobody note h = absurd h

  pub queue_two : (e : ℕ × QueueNote) → MayEnterQueue names e → MayEnterQueue (known names) e
  queue_two e h = queue_from_two (queue_putter e.0) e.1 h

  -- ---- callbacks, orders and images

  sub_hears_two : (call : Callback) → SubHears names.nums call → SubHears Known call
  sub_hears_two on.Create h = tt
  sub_hears_two (on.Msg msg quality) h = msg_two names.nums msg h
  sub_hears_two (on.Gap first to) h = h
  sub_hears_two (on.Quality quality number) h = h
  sub_hears_two (on.RecapRequest sender) h = h
  sub_hears_two (on.Late sender seq) h = h
  sub_hears_two (on.Error code) h = h
  sub_hears_two on.Destroy h = tt
  sub_hears_two _ h = absurd h

  inbox_hears_two : (call : Callback) → InboxHears names.nums call → InboxHears Known call
  inbox_hears_two on.Create h = tt
  inbox_hears_two (on.Reply body) h = body_two names.nums body h
  inbox_hears_two (on.Error code) h = h
  inbox_hears_two on.Destroy h = tt
  inbox_hears_two _ h = absurd h

  hears_two : (object : ObjectId) (call : Callback) → MayHear names.nums object call → MayHear Known object call
  hears_two (Sub id) call h = sub_hears_two call h
  hears_two (Timer id) call h = h
  hears_two (Inbox id) call h = inbox_hears_two call h

  order_two : (o : Order) → MayOrder names o → MayOrder (known names) o
  order_two (orders.Stop id) h = sub_two id h
  order_two (orders.Disarm id) h = timer_two id h
  order_two (orders.Close id) h = inbox_two id h
  order_two (orders.Ask inbox topic fids) h = (inbox_two inbox h.0, topic_two topic h.1, h.2)

  call_two : (object : ObjectId) (n : CallNote) → MayCall names object n → MayCall (known names) object n
  call_two object n h = record { call = hears_two object n.call h.call; orders = All-weaker (MayOrder names) (MayOrder (known names)) order_two n.orders h.orders; few = h.few }

  pub calls_two : (o : ObjectCalls) → MayHearAll names o → MayHearAll (known names) o
  calls_two o h = All-weaker (MayCall names o.object) (MayCall (known names) o.object) (call_two o.object) o.calls h

  group_two : (n : GroupNote) → MayHearGroup names n → MayHearGroup (known names) n
  group_two (grouped.Call sub call) h = (sub_two sub h.0, sub_hears_two call h.1)
  group_two (grouped.State state) h = tt

  pub notes_two : (g : GroupNotes) → MayHearNotes names g → MayHearNotes (known names) g
  notes_two g h = All-weaker (MayHearGroup names) (MayHearGroup (known names)) group_two g.notes h

  pub image_two : (i : LastImage) → IsLastImage names i → IsLastImage (known names) i
  image_two i h = record { sub = sub_two i.sub h.sub; sender = h.sender; last = h.last; body = message_known names.nums i.body h.body }

-- ---- records

formed_two : (script : ScriptData) (run : RunData) → IsFormed script run → IsFormed (in_two script) run
formed_two script run h = record {
  counted = record { clients = h.counted.clients; publishers = h.counted.publishers; queues = h.counted.queues; objects = h.counted.objects; groups = h.counted.groups; watches = h.counted.watches };
  images = h.images;
}

logged_two : (script : ScriptData) (run : RunData) → IsLogged script run → IsLogged (in_two script) run
logged_two script run h =
    let names = names_of script in
    let two = known names in
    record {
      formed = formed_two script run h.formed;
      clients = h.clients;
      publishers = All-weaker (All (MayEnterPublisher names)) (All (MayEnterPublisher two)) (All-weaker (MayEnterPublisher names) (MayEnterPublisher two) (publisher_two names)) run.publishers h.publishers;
      bridge = All-weaker (MayEnterBridge names) (MayEnterBridge two) (bridge_two names) run.bridge h.bridge;
      timers = All-weaker (MayEnterTimers names) (MayEnterTimers two) (timers_two names) run.timers h.timers;
      queues = All-weaker (All (MayEnterQueue names)) (All (MayEnterQueue two)) (All-weaker (MayEnterQueue names) (MayEnterQueue two) (queue_two names)) run.queues h.queues;
      calls = All-weaker (MayHearAll names) (MayHearAll two) (calls_two names) run.calls h.calls;
      images = All-weaker (IsLastImage names) (IsLastImage two) (image_two names) run.images h.images;
      groups = All-weaker (MayHearNotes names) (MayHearNotes two) (notes_two names) run.groups h.groups;
      watches = h.watches;
    }

legal_two : (script : ScriptData) (run : RunData) → IsLegal script run → IsLegal (in_two script) run
legal_two script run h = record {
  shaped = record { publishers = h.shaped.publishers; queues = h.shaped.queues; moments = h.shaped.moments };
  lines = record { clients = h.lines.clients; publishers = h.lines.publishers };
  edges = record { bridge = h.edges.bridge; timers = h.edges.timers; publishers = h.edges.publishers; queues = h.edges.queues };
  calls = record { calls = h.calls.calls; images = h.calls.images };
  lists = record { groups = h.lists.groups; watches = h.lists.watches };
}

legal_back : (script : ScriptData) (run : RunData) → IsLegal (in_two script) run → IsLegal script run
legal_back script run h = record {
  shaped = record { publishers = h.shaped.publishers; queues = h.shaped.queues; moments = h.shaped.moments };
  lines = record { clients = h.lines.clients; publishers = h.lines.publishers };
  edges = record { bridge = h.edges.bridge; timers = h.edges.timers; publishers = h.edges.publishers; queues = h.edges.queues };
  calls = record { calls = h.calls.calls; images = h.calls.images };
  lists = record { groups = h.lists.groups; watches = h.lists.watches };
}

pub records_stay : RecordsStayInTwo
records_stay script run = record { logged = logged_two script run; legal = (legal_two script run, legal_back script run) }
