-- believed: what goes to the queue of one subscription or inbox.
use Rattle.std.specs.Prelude.{◌≡◌, ℕ, Bool, true, false, List, [], ◌∷◌, ◌++◌, ◌<◌, map, filter, slice_index_or, Option, None, Some, if◌then◌else◌}
use Rattle.std.specs.List.{flat_map}
use Rattle.mama_journal.specs.Journal.{first_said}
use Rattle.mama_msg.specs.Field.{FieldData}
use Rattle.mama_link.specs.Link.{through}
use Rattle.mama_event.specs.declared.ids.SubId.{SubId}
use Rattle.mama_event.specs.declared.ids.InboxId.{InboxId}
use Rattle.mama_event.specs.declared.ids.ObjectId.{ObjectId}
use Rattle.mama_event.specs.declared.ids.ObjectId.TheVariants.{Sub, Timer, Inbox}
use Rattle.mama_event.specs.declared.market.MarketMsg.{MarketMsg}
use Rattle.mama_event.specs.declared.to_bridge.SubTerms.{SubTerms}
use Rattle.mama_event.specs.declared.to_bridge.InboxTerms.{InboxTerms}
use Rattle.mama_event.specs.declared.to_queue.Make.{Make}
use Rattle.mama_event.specs.declared.shape.Strategy.{Strategy}
use Rattle.mama_event.specs.declared.to_queue.Make.TheVariants as make
use Rattle.mama_event.specs.declared.to_queue.QueueNote.{QueueNote}
use Rattle.mama_event.specs.declared.to_queue.QueueNote.TheVariants as q
use Rattle.mama_event.specs.declared.to_bridge.BridgeNote.{BridgeNote}
use Rattle.mama_event.specs.declared.to_bridge.BridgeNote.TheVariants as b
use Rattle.mama_event.specs.Ports.{clients_of}
use Rattle.mama_event.specs.Object.{same_sub, same_inbox, same_object}
use Rattle.mama_event.specs.Arrival.{arriving, answering, cut_arrival, cut_reply}
use Rattle.mama_event.specs.Noted.{delivered_note, replied_note}
use Rattle.mama_rules_services.specs.Bridge.{BridgePut, to_publisher, to_queue, to_timers, heard, window, reply_window}
use Rattle.mama_rules_queue.specs.Queue.{QueuePut}
use Rattle.mama_rules_queue.specs.Queue as queue
use Rattle.mama_script.specs.Script.{ScriptData}
use Rattle.mama_record.specs.RunData.{RunData}
use Rattle.mama_rules_legal.specs.Edges.{client_puts}

-- an event to a queue that belongs to an object
abbrev pub is_of : ObjectId → QueueNote → Bool
is_of o (q.Create slot object make tag) = same_object object o
is_of o (q.Deliver slot sub msg) = same_object (Sub sub) o
is_of o (q.Reply slot inbox body) = same_object (Inbox inbox) o
is_of o (q.Bad slot sub kind sender seq bytes) = same_object (Sub sub) o
is_of o (q.BadReply slot inbox bytes) = same_object (Inbox inbox) o
is_of o (q.Tick slot timer moment) = same_object (Timer timer) o
is_of o (q.Gone slot object) = same_object object o
is_of o q.Fin = false

-- what of the bridge's puts is for an object, with the number of its queue
abbrev pub put_for : ObjectId → BridgePut → List (ℕ × QueueNote)
put_for o (to_queue queue note) = if is_of o note then (queue, note) ∷ [] else []
put_for o (to_publisher p note) = []
put_for o (to_timers note) = []

abbrev pub stream_of : ObjectId → List BridgePut → List (ℕ × QueueNote)
stream_of o puts = flat_map (put_for o) puts

-- The stream of an object: on its queue and in one slot its Create, what its link lets through, and its Gone.
pub record IsStream {M : Type 0} (o : ObjectId) (queue : ℕ) (make : Make) (item : ℕ → M → QueueNote) (passed : List M) (stream : List (ℕ × QueueNote)) : Type 0 where
  pub slot : ℕ
  pub tag : ObjectId
  pub whole : stream ≡ (queue, q.Create slot o make tag) ∷ (map (λ m. (queue, item slot m)) passed ++ (queue, q.Gone slot o) ∷ [])

-- that of a subscription with these terms
abbrev pub IsSubStream : Strategy → SubId → SubTerms → List MarketMsg → List (ℕ × QueueNote) → Type 0
IsSubStream strategy s terms window stream = IsStream (Sub s) terms.queue (make.Sub terms.kind terms.cache strategy) (λ slot a. delivered_note slot s a) (through cut_arrival terms.faults (arriving window)) stream

-- that of an inbox with these terms
abbrev pub IsInboxStream : InboxId → InboxTerms → List (List FieldData) → List (ℕ × QueueNote) → Type 0
IsInboxStream i terms window stream = IsStream (Inbox i) terms.queue make.Inbox (λ slot a. replied_note slot i a) (through cut_reply terms.faults (answering window)) stream

-- an object was alive once
pub record WasAlive {E : Type 0} (alive : List E → Bool) (es : List E) : Type 0 where
  pub before : List E
  pub after : List E
  pub whole : es ≡ before ++ after
  pub live : alive before ≡ true

-- THE JOURNALS OF A RECORD

-- the events of an object in the journal of a queue
abbrev pub events_of : ObjectId → List (ℕ × QueueNote) → List QueueNote
events_of o journal = filter (is_of o) (map (λ e. e.1) journal)

-- with what terms a put joins a subscription
abbrev pub terms_noted : SubId → BridgeNote → Option SubTerms
terms_noted s (b.Join r terms tag) = if same_sub r s then Some terms else None
terms_noted s _ = None

abbrev pub terms_put : SubId → QueuePut → Option SubTerms
terms_put s (queue.to_bridge note) = terms_noted s note
terms_put s (queue.to_timers note) = None

-- the terms with which the lines of its client join a subscription
abbrev pub terms_of : ScriptData → RunData → SubId → Option SubTerms
terms_of script run s = first_said (terms_put s) (client_puts script run.clients s.client)

-- A queue's journal has of an object its Create, what its link lets through, and its Gone, in one slot.
pub record IsJournal {M : Type 0} (o : ObjectId) (make : Make) (item : ℕ → M → QueueNote) (passed : List M) (journal : List (ℕ × QueueNote)) : Type 0 where
  pub slot : ℕ
  pub tag : ObjectId
  pub whole : events_of o journal ≡ q.Create slot o make tag ∷ (map (λ m. item slot m) passed ++ q.Gone slot o ∷ [])

abbrev pub IsSubJournal : Strategy → SubId → SubTerms → List MarketMsg → List (ℕ × QueueNote) → Type 0
IsSubJournal strategy s terms window journal = IsJournal (Sub s) (make.Sub terms.kind terms.cache strategy) (λ slot a. delivered_note slot s a) (through cut_arrival terms.faults (arriving window)) journal

-- So it is with each subscription that the script joins, in the journal of its queue.
pub record AreSubStreams (script : ScriptData) (run : RunData) : Type 0 where
  pub each : (s : SubId) (terms : SubTerms) → s.client < clients_of script.shape → terms_of script run s ≡ Some terms
      → IsSubJournal script.shape.strategy s terms (window script.shape s (heard script.shape run.bridge)) (slice_index_or run.queues terms.queue [])

-- with what terms a put opens an inbox
abbrev pub inbox_terms_noted : InboxId → BridgeNote → Option InboxTerms
inbox_terms_noted i (b.OpenInbox j terms tag) = if same_inbox j i then Some terms else None
inbox_terms_noted i _ = None

abbrev pub inbox_terms_put : InboxId → QueuePut → Option InboxTerms
inbox_terms_put i (queue.to_bridge note) = inbox_terms_noted i note
inbox_terms_put i (queue.to_timers note) = None

-- the terms with which the lines of its client open an inbox
abbrev pub inbox_terms_of : ScriptData → RunData → InboxId → Option InboxTerms
inbox_terms_of script run i = first_said (inbox_terms_put i) (client_puts script run.clients i.client)

abbrev pub IsInboxJournal : InboxId → InboxTerms → List (List FieldData) → List (ℕ × QueueNote) → Type 0
IsInboxJournal i terms window journal = IsJournal (Inbox i) make.Inbox (λ slot a. replied_note slot i a) (through cut_reply terms.faults (answering window)) journal

-- So it is with each inbox that the script opens, in the journal of its queue.
pub record AreInboxStreams (script : ScriptData) (run : RunData) : Type 0 where
  pub each : (i : InboxId) (terms : InboxTerms) → i.client < clients_of script.shape → inbox_terms_of script run i ≡ Some terms
      → IsInboxJournal i terms (reply_window script.shape i (heard script.shape run.bridge)) (slice_index_or run.queues terms.queue [])
