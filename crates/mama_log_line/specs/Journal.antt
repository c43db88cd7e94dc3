-- inner: How the entries of the journals are read, word by word behind the first.
use Rattle.std.specs.Prelude.{ℕ, ◌^◌, ◌+◌, ◌-◌, ◌==◌, nat_lt, List, [], ◌∷◌, Option, Some, None, option_and_then, Result, Ok, Err, if◌then◌else◌}
use Rattle.mama_event.specs.declared.ids.ObjectId.{ObjectId}
use Rattle.mama_event.specs.declared.ids.ObjectId.TheVariants.{Sub, Timer, Inbox}
use Rattle.mama_event.specs.declared.to_bridge.BridgeNote.{BridgeNote}
use Rattle.mama_event.specs.declared.to_bridge.BridgeNote.TheVariants as b
use Rattle.mama_event.specs.declared.to_publisher.PublisherNote.TheVariants as p
use Rattle.mama_event.specs.declared.to_timers.TimersNote.{TimersNote}
use Rattle.mama_event.specs.declared.to_timers.TimersNote.TheVariants as t
use Rattle.mama_event.specs.declared.to_queue.QueueNote.{QueueNote}
use Rattle.mama_event.specs.declared.to_queue.QueueNote.TheVariants as q
use Rattle.mama_event.specs.Ports.{clients_of, publishers_of, queues_of, timers_port_of_bridge}
use Rattle.mama_event.specs.declared.publisher_entry.PublisherEntry.{PublisherEntry}
use Rattle.mama_event.specs.declared.publisher_entry.PublisherEntry.TheVariants.{Send, Done, Took}
use Rattle.mama_words.specs.Reading.{◌>>=◌, or_fault}
use Rattle.mama_words.specs.Parting.{parted_in}
use Rattle.mama_words.specs.Value.{block_in}
use Rattle.mama_words.specs.KindIn.{msg_kind_in}
use Rattle.mama_msg.specs.Field.{FieldData}
use Rattle.mama_payload.specs.declared.fault.DecodeFault.{DecodeFault}
use Rattle.mama_event.specs.declared.wire.PieceMsg.{PieceMsg}
use Rattle.mama_payload.specs.Reading.{decoded}
use Rattle.mama_words.specs.Number.{number_in, below_in}
use Rattle.mama_log_line.specs.declared.head.Head.{Head}
use Rattle.mama_log_line.specs.declared.head.Head.TheVariants as heads
use Rattle.mama_log_line.specs.Head.{head_in}
use Rattle.mama_log_line.specs.Names.{NamesData, terms_of, timer_terms_of, inbox_terms_of, make_of}
use Rattle.mama_log_line.specs.Word.{sub_in, timer_in, inbox_in, linked_in, small_in, topic_in, few_fids_in, body_in, market_in, wanted_in}

-- what reading gave, without the number of a fault
abbrev pub told : {A : Type 0} → Result A ℕ → Option A
told (Ok x) = Some x
told (Err n) = None

-- the value, where no word follows
unfoldable pub alone_in : {A : Type 0} → A → List (List ℕ) → Result A ℕ
alone_in x [] = Ok x
alone_in x words = Err 4

-- PUBLISHERS

unfoldable pub want_in : NamesData → List (List ℕ) → Result PublisherEntry ℕ
want_in names (sub ∷ kind ∷ []) = do
  sub ← sub_in names sub
  kind ← or_fault 4 (wanted_in kind)
  Ok (Took (p.Want sub kind))
want_in names words = Err 4

unfoldable pub asked_of_in : NamesData → List (List ℕ) → Result PublisherEntry ℕ
asked_of_in names (inbox ∷ fids) = do
  inbox ← inbox_in names inbox
  fids ← few_fids_in fids
  Ok (Took (p.Ask inbox fids))
asked_of_in names words = Err 4

abbrev pub publisher_body_in : NamesData → Head → List (List ℕ) → Result PublisherEntry ℕ
publisher_body_in names heads.Send words = alone_in Send words
publisher_body_in names heads.Done words = alone_in Done words
publisher_body_in names heads.Want words = want_in names words
publisher_body_in names heads.Ask words = asked_of_in names words
publisher_body_in names heads.Settle words = alone_in (Took p.Settle) words
publisher_body_in names heads.Fin words = alone_in (Took p.Fin) words
publisher_body_in names _ words = Err 3

unfoldable pub publisher_words_in : NamesData → List (List ℕ) → Result PublisherEntry ℕ
publisher_words_in names (head ∷ words) = or_fault 3 (head_in head) >>= λ head. publisher_body_in names head words
publisher_words_in names [] = Err 4

unfoldable pub publisher_line_in : NamesData → List ℕ → Result PublisherEntry ℕ
publisher_line_in names line = or_fault 2 (parted_in line) >>= publisher_words_in names

-- PORTS

-- the port of an actor with a number below a count, where the ports of its kind begin with this one
abbrev pub port_of : ℕ → ℕ → Option ℕ
port_of first n = if nat_lt n (2 ^ 32 - first) then Some (first + n) else None

unfoldable pub port_in : ℕ → ℕ → List ℕ → Option ℕ
port_in first count digits = option_and_then (port_of first) (below_in count digits)

-- a port with the note that came by it
abbrev pub came_by : {A : Type 0} → Option ℕ → Result A ℕ → Result (ℕ × A) ℕ
came_by port note = or_fault 9 port >>= λ port. note >>= λ note. Ok (port, note)

-- THE BRIDGE

unfoldable pub join_in : NamesData → List (List ℕ) → Result BridgeNote ℕ
join_in names (word ∷ []) = do
  sub ← sub_in names word
  terms ← or_fault 10 (terms_of names sub)
  Ok (b.Join sub terms (Sub sub))
join_in names words = Err 4

unfoldable pub leave_in : NamesData → List (List ℕ) → Result BridgeNote ℕ
leave_in names (word ∷ []) = sub_in names word >>= λ sub. Ok (b.Leave sub)
leave_in names words = Err 4

unfoldable pub open_in : NamesData → List (List ℕ) → Result BridgeNote ℕ
open_in names (word ∷ []) = do
  inbox ← inbox_in names word
  terms ← or_fault 10 (inbox_terms_of names inbox)
  Ok (b.OpenInbox inbox terms (Inbox inbox))
open_in names words = Err 4

unfoldable pub close_in : NamesData → List (List ℕ) → Result BridgeNote ℕ
close_in names (word ∷ []) = inbox_in names word >>= λ inbox. Ok (b.CloseInbox inbox)
close_in names words = Err 4

unfoldable pub ask_in : NamesData → List (List ℕ) → Result BridgeNote ℕ
ask_in names (inbox ∷ topic ∷ fids) = do
  inbox ← inbox_in names inbox
  topic ← topic_in names topic
  fids ← few_fids_in fids
  Ok (b.Ask inbox topic fids)
ask_in names words = Err 4

unfoldable pub publish_in : NamesData → List (List ℕ) → Result BridgeNote ℕ
publish_in names words = market_in names.nums words >>= λ msg. Ok (b.Publish msg)

unfoldable pub image_in : NamesData → List (List ℕ) → Result BridgeNote ℕ
image_in names (sub ∷ words) = do
  sub ← sub_in names sub
  msg ← market_in names.nums words
  Ok (b.Image sub msg)
image_in names [] = Err 4

unfoldable pub answer_in : NamesData → List (List ℕ) → Result BridgeNote ℕ
answer_in names (inbox ∷ words) = do
  inbox ← inbox_in names inbox
  body ← body_in names.nums words
  Ok (b.Reply inbox body)
answer_in names [] = Err 4

unfoldable pub wish_in : NamesData → List (List ℕ) → Result BridgeNote ℕ
wish_in names (sub ∷ sender ∷ []) = do
  sub ← sub_in names sub
  sender ← small_in sender
  Ok (b.RecapWish sub sender)
wish_in names words = Err 4

abbrev pub bridge_client_in : NamesData → Head → List (List ℕ) → Result BridgeNote ℕ
bridge_client_in names heads.Join words = join_in names words
bridge_client_in names heads.Leave words = leave_in names words
bridge_client_in names heads.Open words = open_in names words
bridge_client_in names heads.Close words = close_in names words
bridge_client_in names heads.Ask words = ask_in names words
bridge_client_in names heads.Done words = alone_in b.ClientDone words
bridge_client_in names _ words = Err 3

abbrev pub bridge_publisher_in : NamesData → Head → List (List ℕ) → Result BridgeNote ℕ
bridge_publisher_in names heads.Publish words = publish_in names words
bridge_publisher_in names heads.Image words = image_in names words
bridge_publisher_in names heads.Reply words = answer_in names words
bridge_publisher_in names heads.Done words = alone_in b.SendsDone words
bridge_publisher_in names heads.Settled words = alone_in b.Settled words
bridge_publisher_in names _ words = Err 3

abbrev pub bridge_queue_in : NamesData → Head → List (List ℕ) → Result BridgeNote ℕ
bridge_queue_in names heads.Leave words = leave_in names words
bridge_queue_in names heads.Close words = close_in names words
bridge_queue_in names heads.Ask words = ask_in names words
bridge_queue_in names heads.Recap words = wish_in names words
bridge_queue_in names heads.Bye words = alone_in b.Bye words
bridge_queue_in names _ words = Err 3

abbrev pub bridge_client_port : NamesData → List ℕ → Option ℕ
bridge_client_port names digits = port_in 0 (clients_of names.shape) digits

abbrev pub bridge_publisher_port : NamesData → List ℕ → Option ℕ
bridge_publisher_port names digits = port_in (clients_of names.shape) (publishers_of names.shape) digits

abbrev pub bridge_queue_port : NamesData → List ℕ → Option ℕ
bridge_queue_port names digits = port_in (clients_of names.shape + publishers_of names.shape) (queues_of names.shape) digits

-- by the letter of the port: a client's, a publisher's, a queue's
unfoldable pub bridge_by : NamesData → List ℕ → Head → List (List ℕ) → Result (ℕ × BridgeNote) ℕ
bridge_by names [] head words = Err 5
bridge_by names (letter ∷ digits) head words =
    if letter == 99 then came_by (bridge_client_port names digits) (bridge_client_in names head words)
    else (if letter == 112 then came_by (bridge_publisher_port names digits) (bridge_publisher_in names head words)
    else (if letter == 113 then came_by (bridge_queue_port names digits) (bridge_queue_in names head words)
    else Err 5))

unfoldable pub bridge_words_in : NamesData → List (List ℕ) → Result (ℕ × BridgeNote) ℕ
bridge_words_in names (port ∷ head ∷ words) = or_fault 3 (head_in head) >>= λ head. bridge_by names port head words
bridge_words_in names words = Err 4

unfoldable pub bridge_line_in : NamesData → List ℕ → Result (ℕ × BridgeNote) ℕ
bridge_line_in names line = or_fault 2 (parted_in line) >>= bridge_words_in names

-- THE TIMERS

unfoldable pub arm_in : NamesData → List (List ℕ) → Result TimersNote ℕ
arm_in names (word ∷ []) = do
  timer ← timer_in names word
  terms ← or_fault 10 (timer_terms_of names timer)
  Ok (t.Arm timer terms.queue terms.interval (Timer timer))
arm_in names words = Err 4

unfoldable pub disarm_in : NamesData → List (List ℕ) → Result TimersNote ℕ
disarm_in names (word ∷ []) = timer_in names word >>= λ timer. Ok (t.Disarm timer)
disarm_in names words = Err 4

unfoldable pub now_in : List (List ℕ) → Result TimersNote ℕ
now_in (word ∷ []) = or_fault 5 (number_in word) >>= λ moment. Ok (t.Now moment)
now_in words = Err 4

abbrev pub timers_client_in : NamesData → Head → List (List ℕ) → Result TimersNote ℕ
timers_client_in names heads.Arm words = arm_in names words
timers_client_in names heads.Disarm words = disarm_in names words
timers_client_in names heads.Now words = now_in words
timers_client_in names heads.Done words = alone_in t.ClientDone words
timers_client_in names _ words = Err 3

abbrev pub timers_queue_in : NamesData → Head → List (List ℕ) → Result TimersNote ℕ
timers_queue_in names heads.Disarm words = disarm_in names words
timers_queue_in names heads.Bye words = alone_in t.Bye words
timers_queue_in names _ words = Err 3

abbrev pub timers_bridge_in : Head → List (List ℕ) → Result TimersNote ℕ
timers_bridge_in heads.Fin words = alone_in t.Fin words
timers_bridge_in _ words = Err 3

abbrev pub timers_client_port : NamesData → List ℕ → Option ℕ
timers_client_port names digits = port_in 0 (clients_of names.shape) digits

abbrev pub timers_queue_port : NamesData → List ℕ → Option ℕ
timers_queue_port names digits = port_in (clients_of names.shape) (queues_of names.shape) digits

-- the bridge's port has no number
abbrev pub timers_bridge_port : NamesData → List ℕ → Option ℕ
timers_bridge_port names [] = port_of (timers_port_of_bridge names.shape) 0
timers_bridge_port names (d ∷ digits) = None

unfoldable pub timers_by : NamesData → List ℕ → Head → List (List ℕ) → Result (ℕ × TimersNote) ℕ
timers_by names [] head words = Err 5
timers_by names (letter ∷ digits) head words =
    if letter == 99 then came_by (timers_client_port names digits) (timers_client_in names head words)
    else (if letter == 113 then came_by (timers_queue_port names digits) (timers_queue_in names head words)
    else (if letter == 98 then came_by (timers_bridge_port names digits) (timers_bridge_in head words)
    else Err 5))

unfoldable pub timers_words_in : NamesData → List (List ℕ) → Result (ℕ × TimersNote) ℕ
timers_words_in names (port ∷ head ∷ words) = or_fault 3 (head_in head) >>= λ head. timers_by names port head words
timers_words_in names words = Err 4

unfoldable pub timers_line_in : NamesData → List ℕ → Result (ℕ × TimersNote) ℕ
timers_line_in names line = or_fault 2 (parted_in line) >>= timers_words_in names

-- QUEUES

unfoldable pub created_in : NamesData → ℕ → ObjectId → Result QueueNote ℕ
created_in names slot object = or_fault 10 (make_of names object) >>= λ make. Ok (q.Create slot object make object)

unfoldable pub create_linked_in : NamesData → List (List ℕ) → Result QueueNote ℕ
create_linked_in names (slot ∷ object ∷ []) = do
  slot ← small_in slot
  object ← linked_in names object
  created_in names slot object
create_linked_in names words = Err 4

unfoldable pub create_timer_in : NamesData → List (List ℕ) → Result QueueNote ℕ
create_timer_in names (slot ∷ timer ∷ []) = do
  slot ← small_in slot
  timer ← timer_in names timer
  created_in names slot (Timer timer)
create_timer_in names words = Err 4

unfoldable pub data_in : NamesData → List (List ℕ) → Result QueueNote ℕ
data_in names (slot ∷ sub ∷ words) = do
  slot ← small_in slot
  sub ← sub_in names sub
  msg ← market_in names.nums words
  Ok (q.Deliver slot sub msg)
data_in names words = Err 4

unfoldable pub reply_in : NamesData → List (List ℕ) → Result QueueNote ℕ
reply_in names (slot ∷ inbox ∷ words) = do
  slot ← small_in slot
  inbox ← inbox_in names inbox
  body ← body_in names.nums words
  Ok (q.Reply slot inbox body)
reply_in names words = Err 4

-- bytes that spell no message
abbrev pub if_broken : List ℕ → Result (List FieldData) DecodeFault → Result (List ℕ) ℕ
if_broken bytes (Ok fields) = Err 7
if_broken bytes (Err fault) = Ok bytes

unfoldable pub broken_in : List ℕ → Result (List ℕ) ℕ
broken_in word = or_fault 7 (block_in word) >>= λ bytes. if_broken bytes (decoded bytes)

-- a message whose bytes spell none
unfoldable pub piece_in : List ℕ → List ℕ → List ℕ → List ℕ → Result PieceMsg ℕ
piece_in kind sender seq bytes = do
  kind ← or_fault 4 (msg_kind_in kind)
  sender ← small_in sender
  seq ← small_in seq
  bytes ← broken_in bytes
  Ok (record { kind = kind; sender = sender; seq = seq; body = bytes })

unfoldable pub bad_in : NamesData → List (List ℕ) → Result QueueNote ℕ
bad_in names (slot ∷ sub ∷ kind ∷ sender ∷ seq ∷ bytes ∷ []) = do
  slot ← small_in slot
  sub ← sub_in names sub
  piece ← piece_in kind sender seq bytes
  Ok (q.Bad slot sub piece.kind piece.sender piece.seq piece.body)
bad_in names words = Err 4

unfoldable pub bad_reply_in : NamesData → List (List ℕ) → Result QueueNote ℕ
bad_reply_in names (slot ∷ inbox ∷ bytes ∷ []) = do
  slot ← small_in slot
  inbox ← inbox_in names inbox
  bytes ← broken_in bytes
  Ok (q.BadReply slot inbox bytes)
bad_reply_in names words = Err 4

unfoldable pub tick_in : NamesData → List (List ℕ) → Result QueueNote ℕ
tick_in names (slot ∷ timer ∷ moment ∷ []) = do
  slot ← small_in slot
  timer ← timer_in names timer
  moment ← or_fault 5 (number_in moment)
  Ok (q.Tick slot timer moment)
tick_in names words = Err 4

unfoldable pub gone_linked_in : NamesData → List (List ℕ) → Result QueueNote ℕ
gone_linked_in names (slot ∷ object ∷ []) = do
  slot ← small_in slot
  object ← linked_in names object
  Ok (q.Gone slot object)
gone_linked_in names words = Err 4

unfoldable pub gone_timer_in : NamesData → List (List ℕ) → Result QueueNote ℕ
gone_timer_in names (slot ∷ timer ∷ []) = do
  slot ← small_in slot
  timer ← timer_in names timer
  Ok (q.Gone slot (Timer timer))
gone_timer_in names words = Err 4

abbrev pub queue_bridge_in : NamesData → Head → List (List ℕ) → Result QueueNote ℕ
queue_bridge_in names heads.Create words = create_linked_in names words
queue_bridge_in names heads.Data words = data_in names words
queue_bridge_in names heads.Reply words = reply_in names words
queue_bridge_in names heads.Bad words = bad_in names words
queue_bridge_in names heads.BadReply words = bad_reply_in names words
queue_bridge_in names heads.Gone words = gone_linked_in names words
queue_bridge_in names heads.Fin words = alone_in q.Fin words
queue_bridge_in names _ words = Err 3

abbrev pub queue_timers_in : NamesData → Head → List (List ℕ) → Result QueueNote ℕ
queue_timers_in names heads.Create words = create_timer_in names words
queue_timers_in names heads.Tick words = tick_in names words
queue_timers_in names heads.Gone words = gone_timer_in names words
queue_timers_in names heads.Fin words = alone_in q.Fin words
queue_timers_in names _ words = Err 3

-- the ports have letters alone: the bridge's and the timer service's
unfoldable pub queue_by : NamesData → List ℕ → Head → List (List ℕ) → Result (ℕ × QueueNote) ℕ
queue_by names (letter ∷ []) head words =
    if letter == 98 then (queue_bridge_in names head words >>= λ note. Ok (0, note))
    else (if letter == 116 then (queue_timers_in names head words >>= λ note. Ok (1, note))
    else Err 5)
queue_by names port head words = Err 5

unfoldable pub queue_words_in : NamesData → List (List ℕ) → Result (ℕ × QueueNote) ℕ
queue_words_in names (port ∷ head ∷ words) = or_fault 3 (head_in head) >>= λ head. queue_by names port head words
queue_words_in names words = Err 4

unfoldable pub queue_line_in : NamesData → List ℕ → Result (ℕ × QueueNote) ℕ
queue_line_in names line = or_fault 2 (parted_in line) >>= queue_words_in names
