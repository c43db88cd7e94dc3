-- believed: when a message of the market and a reply are genuine for the publishers of a script, and what a run delivers.
use Rattle.std.specs.Prelude.{◌≡◌, ℕ, ◌+◌, ◌≤◌, List, length, Some, slice_get}
use Rattle.std.specs.List.{AllByRecursion}
use Rattle.mama_msg.specs.Field.{FieldData}
use Rattle.mama_event.specs.Publisher.{PublisherScript, updates_of, asked_fields}
use Rattle.mama_event.specs.Record.{record_after}
use Rattle.mama_event.specs.Genuine.{IsGenuineBody}
use Rattle.mama_event.specs.declared.market.MarketMsg.{MarketMsg}
use Rattle.mama_event.specs.declared.to_queue.QueueNote.{QueueNote}
use Rattle.mama_event.specs.declared.to_queue.QueueNote.TheVariants as q
use Rattle.mama_event.specs.declared.callback.Callback.{Callback}
use Rattle.mama_event.specs.declared.callback.Callback.TheVariants as on
use Rattle.mama_event.specs.declared.callback.CallNote.{CallNote}
use Rattle.mama_record.specs.RunData.{RunData, ObjectCalls}
use Rattle.mama_script.specs.Script.{ScriptData}
use Rattle.mama_rules_rounds.specs.Sections.{publishers_from}
use Rattle.mama_rules_legal.specs.Calls.{IsShapedFor, AreCalls}
use Rattle.mama_rules_legal.specs.Edges.{AreEdges}

-- The sender of a message is one of the publishers, by its place and 1 more. An update is that publisher's update of
-- its number, and an image is that publisher's record at its number.
pub record IsSent (publishers : List PublisherScript) (m : MarketMsg) : Type 0 where
  pub place : ℕ
  pub publisher : PublisherScript
  pub stands : slice_get publishers place ≡ Some publisher
  pub sender : m.sender ≡ place + 1
  pub body : IsGenuineBody publisher.base (updates_of publisher.lines) m.kind m.seq m.body

-- A reply has the fields of some fids, as far as they are there, of the record of one of the publishers at a number.
pub record IsReply (publishers : List PublisherScript) (body : List FieldData) : Type 0 where
  pub place : ℕ
  pub publisher : PublisherScript
  pub stands : slice_get publishers place ≡ Some publisher
  pub number : ℕ
  pub within : number ≤ length (updates_of publisher.lines)
  pub fids : List ℕ
  pub fields : body ≡ asked_fields fids (record_after publisher.base (updates_of publisher.lines) number)

-- what is said of messages and of replies holds of the one that is delivered, if one is
abbrev pub Delivers : (MarketMsg → Type 0) → (List FieldData → Type 0) → QueueNote → Type 0
Delivers G R (q.Create slot object make tag) = Unit {0}
Delivers G R (q.Deliver slot sub msg) = G msg
Delivers G R (q.Reply slot inbox body) = R body
Delivers G R (q.Bad slot sub kind sender seq bytes) = Unit {0}
Delivers G R (q.BadReply slot inbox bytes) = Unit {0}
Delivers G R (q.Tick slot timer moment) = Unit {0}
Delivers G R (q.Gone slot object) = Unit {0}
Delivers G R q.Fin = Unit {0}

-- each message and each reply that some queues took is genuine for the publishers
abbrev pub AreSent : List PublisherScript → List (List (ℕ × QueueNote)) → Type 0
AreSent publishers queues = AllByRecursion (AllByRecursion (λ (e : ℕ × QueueNote). Delivers (IsSent publishers) (IsReply publishers) e.1)) queues

-- what is said of messages and of replies holds of the one that a listener is given, if it is given one
abbrev pub Gives : (MarketMsg → Type 0) → (List FieldData → Type 0) → Callback → Type 0
Gives G R (on.Msg m q) = G m
Gives G R on.Create = Unit {0}
Gives G R (on.Gap first to) = Unit {0}
Gives G R (on.Quality q n) = Unit {0}
Gives G R (on.RecapRequest s) = Unit {0}
Gives G R (on.Late s n) = Unit {0}
Gives G R (on.Error e) = Unit {0}
Gives G R on.Destroy = Unit {0}
Gives G R (on.Tick t) = Unit {0}
Gives G R (on.Reply b) = R b

-- each message and each reply that some listeners were given is genuine for the publishers
abbrev pub AreGivenSent : List PublisherScript → List ObjectCalls → Type 0
AreGivenSent publishers objects =
    AllByRecursion (λ (o : ObjectCalls). AllByRecursion (λ (n : CallNote). Gives (IsSent publishers) (IsReply publishers) n.call) o.calls) objects

-- in a record of a script whose edges are whole, each message and each reply that a queue took is genuine for the
-- script's publishers
abbrev pub DeliveredMessagesAreSent : Type 0
DeliveredMessagesAreSent = (script : ScriptData) (run : RunData) → IsShapedFor script run → AreEdges script run
    → AreSent (publishers_from 0 script.publishers) run.queues

-- in a record of a script whose edges are whole and whose callbacks are those that its queues make, each message and
-- each reply that a listener is given is genuine for the script's publishers
abbrev pub GivenMessagesAreSent : Type 0
GivenMessagesAreSent = (script : ScriptData) (run : RunData) → IsShapedFor script run → AreEdges script run → AreCalls script run
    → AreGivenSent (publishers_from 0 script.publishers) run.calls
