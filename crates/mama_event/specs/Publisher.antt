-- believed: what a publisher puts, entry by entry over its journal.
use Rattle.std.specs.Prelude.{ℕ, ◌+◌, Bool, true, false, List, [], ◌∷◌, ◌++◌, take, length, filter_map, Option, Some, None, slice_get}
use Rattle.mama_journal.specs.Journal.{count_of, puts}
use Rattle.mama_msg.specs.Field.{FieldData}
use Rattle.mama_msg.specs.Message.{with_fid}
use Rattle.mama_event.specs.Record.{record_after}
use Rattle.mama_event.specs.declared.market.MsgKind.{MsgKind}
use Rattle.mama_event.specs.declared.market.MsgKind.TheVariants as kind
use Rattle.mama_event.specs.declared.market.MarketMsg.{MarketMsg}
use Rattle.mama_event.specs.declared.to_publisher.PublisherNote.{PublisherNote}
use Rattle.mama_event.specs.declared.to_publisher.PublisherNote.TheVariants as note
use Rattle.mama_event.specs.declared.to_bridge.BridgeNote.{BridgeNote}
use Rattle.mama_event.specs.declared.to_bridge.BridgeNote.TheVariants as put
use Rattle.mama_event.specs.declared.publisher_entry.PublisherEntry.{PublisherEntry}
use Rattle.mama_event.specs.declared.publisher_entry.PublisherEntry.TheVariants as entry

-- what a publisher sends of its own accord: an update with this body, or the whole record again
pub data SendLine : Type 0 where
  Update : List FieldData → SendLine
  Recap : SendLine

-- a publisher's number, the base of its record, and what it sends, in order
pub record PublisherScript : Type 0 where
  pub number : ℕ
  pub base : List FieldData
  pub lines : List SendLine

-- the bodies of the updates, in order
abbrev pub updates_of : List SendLine → List (List FieldData)
updates_of [] = []
updates_of (Update body ∷ lines) = body ∷ updates_of lines
updates_of (Recap ∷ lines) = updates_of lines

-- the entry is a send
abbrev pub is_send : PublisherEntry → Bool
is_send entry.Send = true
is_send entry.Done = false
is_send (entry.Took n) = false

-- how many updates a journal has sent: its sends stand for the first of the lines
abbrev pub updates_sent : PublisherScript → List PublisherEntry → ℕ
updates_sent script journal = length (updates_of (take (count_of is_send journal) script.lines))

-- the record after a journal: the base with the updates that were sent
abbrev pub record_at : PublisherScript → List PublisherEntry → List FieldData
record_at script journal = record_after script.base (updates_of script.lines) (updates_sent script journal)

-- a message of publisher p: its sender is p + 1
abbrev pub message_of : ℕ → MsgKind → ℕ → List FieldData → MarketMsg
message_of number kind seq body = record { kind = kind; sender = number + 1; seq = seq; body = body }

-- the fields of a record with the asked fids, in the order asked, without those that are not there
abbrev pub asked_fields : List ℕ → List FieldData → List FieldData
asked_fields fids held = filter_map (λ fid. with_fid fid held) fids

-- what a publisher with this record, after this many updates, answers to an event
abbrev pub answer_of : ℕ → List FieldData → ℕ → PublisherNote → List BridgeNote
answer_of number held seq (note.Want sub kind) = put.Image sub (message_of number kind seq held) ∷ []
answer_of number held seq (note.Ask inbox fids) = put.Reply inbox (asked_fields fids held) ∷ []
answer_of number held seq note.Settle = put.Settled ∷ []
answer_of number held seq note.Fin = []

-- what sending a line puts, where the record and the count of updates are those after it
abbrev pub sent_of : ℕ → List FieldData → ℕ → Option SendLine → List BridgeNote
sent_of number held seq (Some (Update body)) = put.Publish (message_of number kind.Update seq body) ∷ []
sent_of number held seq (Some Recap) = put.Publish (message_of number kind.Recap seq held) ∷ []
sent_of number held seq None = []

-- what an entry puts, after those before it
abbrev pub publisher_puts_at : PublisherScript → List PublisherEntry → PublisherEntry → List BridgeNote
publisher_puts_at script before entry.Send =
    sent_of script.number (record_at script (before ++ entry.Send ∷ [])) (updates_sent script (before ++ entry.Send ∷ []))
    (slice_get script.lines (count_of is_send before))
publisher_puts_at script before entry.Done = put.SendsDone ∷ []
publisher_puts_at script before (entry.Took n) = answer_of script.number (record_at script before) (updates_sent script before) n

-- what a publisher's whole journal puts
abbrev pub publisher_puts : PublisherScript → List PublisherEntry → List BridgeNote
publisher_puts script journal = puts (publisher_puts_at script) journal
