-- believed: what a listener is told, from its create notice to its destroy notice.
use Rattle.std.specs.Prelude.{◌≡◌, ◌⊎◌, ℕ, true, false, List, [], ◌∷◌, ◌++◌, map, slice_index_or, Some, Ok, Err}
use Rattle.std.specs.List.{AllZip}
use Rattle.mama_link.specs.Link.{through}
use Rattle.mama_event.specs.declared.ids.SubId.{SubId}
use Rattle.mama_event.specs.declared.ids.TimerId.{TimerId}
use Rattle.mama_event.specs.declared.ids.InboxId.{InboxId}
use Rattle.mama_event.specs.declared.ids.ObjectId.{ObjectId}
use Rattle.mama_event.specs.declared.ids.ObjectId.TheVariants.{Sub, Timer, Inbox}
use Rattle.mama_event.specs.declared.market.SubKind.{SubKind}
use Rattle.mama_event.specs.declared.shape.Strategy.{Strategy}
use Rattle.mama_event.specs.declared.callback.Callback.{Callback}
use Rattle.mama_event.specs.declared.callback.Callback.TheVariants as on
use Rattle.mama_event.specs.declared.callback.CallNote.{CallNote}
use Rattle.mama_event.specs.declared.order.Order.{Order}
use Rattle.mama_event.specs.declared.to_queue.Make.{Make}
use Rattle.mama_event.specs.declared.to_queue.Make.TheVariants as make
use Rattle.mama_event.specs.declared.to_queue.QueueNote.{QueueNote}
use Rattle.mama_event.specs.declared.to_queue.QueueNote.TheVariants as q
use Rattle.mama_event.specs.declared.to_bridge.SubTerms.{SubTerms}
use Rattle.mama_event.specs.declared.to_bridge.InboxTerms.{InboxTerms}
use Rattle.mama_event.specs.Arrival.{Arrival, ReplyArrival, arriving, answering, cut_arrival, cut_reply, code_of}
use Rattle.mama_event.specs.Noted.{delivered_note, replied_note}
use Rattle.mama_dq.specs.Context.{ContextData, new_context}
use Rattle.mama_dq.specs.Strategy.{callbacks_of, after}
use Rattle.mama_rules_services.specs.Bridge.{heard, window, reply_window}
use Rattle.mama_rules_services.specs.Timers as timing
use Rattle.mama_rules_queue.specs.Queue.{Deed, called, calls_of, deeds, is_muted}
use Rattle.mama_record.specs.RunData.{RunData, ObjectCalls}
use Rattle.mama_script.specs.Script.{ScriptData}
use Rattle.mama_rules_rounds.specs.Client.{Planned}
use Rattle.mama_rules_rounds.specs.Setting.{orders_by}
use Rattle.mama_rules_rounds.specs.Sections.{setting_of}
use Rattle.mama_rules_legal.specs.Streams.{events_of, terms_of, inbox_terms_of}
use Rattle.mama_rules_legal.specs.Ticks.{arming_of, ticks}

-- the callbacks that some deeds make of an object
abbrev pub call_in : Callback × List Order → Callback
call_in c = c.0

abbrev pub told_in : ObjectId → List Deed → List Callback
told_in o ds = map call_in (calls_of o ds)

-- An order in one of some deeds muted an object, which was not muted before, and up to there it was told these callbacks
-- after its create notice.
pub record IsMutedWith (o : ObjectId) (told : List Callback) (ds : List Deed) : Type 0 where
  pub before : List Deed
  pub by : Deed
  pub after : List Deed
  pub cut : ds ≡ before ++ by ∷ after
  pub free : is_muted o before ≡ false
  pub muted : is_muted o (before ++ by ∷ []) ≡ true
  pub calls : told_in o (before ++ by ∷ []) ≡ on.Create ∷ told

-- when its destroy notice came it was not muted
pub record IsNotMuted (o : ObjectId) (ds : List Deed) : Type 0 where
  pub before : List Deed
  pub orders : List Order
  pub after : List Deed
  pub cut : ds ≡ before ++ called o on.Destroy orders ∷ after
  pub free : is_muted o before ≡ false

-- Between its create and its destroy notice an object is told these callbacks, in order and each once, and nothing follows
-- the notice: all of them, if it was not muted when the notice came; else those up to the order that muted it.
pub record IsTold (o : ObjectId) (whole : List Callback) (ds : List Deed) (given : List Callback) : Type 0 where
  pub told : List Callback
  pub left : List Callback
  pub parts : whole ≡ told ++ left
  pub calls : given ≡ on.Create ∷ (told ++ on.Destroy ∷ [])
  pub ended : ((left ≡ []) × IsNotMuted o ds) ⊎ IsMutedWith o told ds

-- At each place of a queue's journal where an object's Create was taken and its notice was not, and it is not muted, it was
-- told all that the events taken so far give. note has the event of each x that is meant for it.
abbrev pub TellsAtOnce : {X : Type 0} → ObjectId → Make → (ℕ → X → QueueNote) → (List X → List Callback) → (ObjectId → ℕ → List Order) → List (ℕ × QueueNote) → Type 0
TellsAtOnce {X} o how note whole orders journal = (front back : List (ℕ × QueueNote)) (slot : ℕ) (tag : ObjectId) (xs : List X) → journal ≡ front ++ back
    → events_of o front ≡ q.Create slot o how tag ∷ map (note slot) xs → is_muted o (deeds orders front) ≡ false
    → told_in o (deeds orders front) ≡ on.Create ∷ whole xs

-- what a context makes of what arrives: the callbacks of each message, in order, and the code of bytes that spell none, which change nothing
abbrev pub told_from : ContextData → List Arrival → List Callback
told_from c [] = []
told_from c (Ok m ∷ arrivals) = callbacks_of c m ++ told_from (after c m) arrivals
told_from c (Err piece ∷ arrivals) = on.Error (code_of piece.body) ∷ told_from c arrivals

-- and a strategy, from the first
abbrev pub tells : Strategy → SubKind → ℕ → List Arrival → List Callback
tells strategy kind size arrivals = told_from (new_context strategy kind size) arrivals

abbrev pub ticks_told : List ℕ → List Callback
ticks_told moments = map (λ m. on.Tick m) moments

-- a reply that arrives, or the code of bytes that spell none
abbrev pub reply_told : ReplyArrival → Callback
reply_told (Ok body) = on.Reply body
reply_told (Err bytes) = on.Error (code_of bytes)

abbrev pub replies_told : List ReplyArrival → List Callback
replies_told arrivals = map reply_told arrivals

-- THE CALLBACKS OF A RECORD

abbrev pub call_of : CallNote → Callback
call_of n = n.call

-- what a queue does by its journal and by the orders of the plans
abbrev pub deeds_on : ScriptData → RunData → ℕ → List Deed
deeds_on script run queue = deeds (orders_by (setting_of script)) (slice_index_or run.queues queue [])

-- With these callbacks a subscription is told what its strategy makes of exactly the messages that its link lets
-- through of what was sent while it was joined, and of each that a cut left broken its code.
pub record IsToldLink (script : ScriptData) (run : RunData) (queue : ℕ) (s : SubId) (calls : List CallNote) : Type 0 where
  pub terms : SubTerms
  pub joined : terms_of script run s ≡ Some terms
  pub there : terms.queue ≡ queue
  pub told : IsTold (Sub s) (tells script.shape.strategy terms.kind terms.cache (through cut_arrival terms.faults (arriving (window script.shape s (heard script.shape run.bridge)))))
      (deeds_on script run queue) (map call_of calls)
  pub at_once : TellsAtOnce (Sub s) (make.Sub terms.kind terms.cache script.shape.strategy) (λ slot a. delivered_note slot s a) (tells script.shape.strategy terms.kind terms.cache)
      (orders_by (setting_of script)) (slice_index_or run.queues queue [])

-- With these a timer is told its ticks.
pub record IsToldTicks (script : ScriptData) (run : RunData) (queue : ℕ) (t : TimerId) (calls : List CallNote) : Type 0 where
  pub arming : ℕ × ℕ
  pub armed : arming_of script run t ≡ Some arming
  pub there : arming.0 ≡ queue
  pub told : IsTold (Timer t) (ticks_told (ticks script.shape t (timing.heard script.shape run.timers))) (deeds_on script run queue) (map call_of calls)
  pub at_once : TellsAtOnce (Timer t) make.Timer (λ slot m. q.Tick slot t m) ticks_told (orders_by (setting_of script)) (slice_index_or run.queues queue [])

-- With these an inbox is told exactly the replies that its link lets through of those that were put while it was open, and of each that a cut
-- left broken its code.
pub record IsToldReplies (script : ScriptData) (run : RunData) (queue : ℕ) (i : InboxId) (calls : List CallNote) : Type 0 where
  pub terms : InboxTerms
  pub opened : inbox_terms_of script run i ≡ Some terms
  pub there : terms.queue ≡ queue
  pub told : IsTold (Inbox i) (replies_told (through cut_reply terms.faults (answering (reply_window script.shape i (heard script.shape run.bridge)))))
      (deeds_on script run queue) (map call_of calls)
  pub at_once : TellsAtOnce (Inbox i) make.Inbox (λ slot a. replied_note slot i a) replies_told (orders_by (setting_of script)) (slice_index_or run.queues queue [])

-- what is said of each kind of object
abbrev pub Of : (SubId → Type 0) → (TimerId → Type 0) → (InboxId → Type 0) → ObjectId → Type 0
Of S T I (Sub s) = S s
Of S T I (Timer t) = T t
Of S T I (Inbox i) = I i

-- the callbacks that a record has of an object of the script
pub record IsToldObject (script : ScriptData) (run : RunData) (p : Planned) (c : ObjectCalls) : Type 0 where
  pub object : c.object ≡ p.object
  pub told : Of (λ s. IsToldLink script run p.queue s c.calls) (λ t. IsToldTicks script run p.queue t c.calls) (λ i. IsToldReplies script run p.queue i c.calls) p.object

-- so it is with each object of the script
abbrev pub AreTold : ScriptData → RunData → Type 0
AreTold script run = AllZip (IsToldObject script run) (setting_of script).objects run.calls
