-- believed: the notes of what arrives for a subscription and for an inbox.
use Rattle.std.specs.Prelude.{ℕ, Ok, Err}
use Rattle.mama_event.specs.Arrival.{Arrival, ReplyArrival}
use Rattle.mama_event.specs.declared.ids.SubId.{SubId}
use Rattle.mama_event.specs.declared.ids.InboxId.{InboxId}
use Rattle.mama_event.specs.declared.to_queue.QueueNote.{QueueNote}
use Rattle.mama_event.specs.declared.to_queue.QueueNote.TheVariants as note

-- the note of what arrives for a subscription, and for an inbox
abbrev pub delivered_note : ℕ → SubId → Arrival → QueueNote
delivered_note slot sub (Ok msg) = note.Deliver slot sub msg
delivered_note slot sub (Err piece) = note.Bad slot sub piece.kind piece.sender piece.seq piece.body

abbrev pub replied_note : ℕ → InboxId → ReplyArrival → QueueNote
replied_note slot inbox (Ok body) = note.Reply slot inbox body
replied_note slot inbox (Err bytes) = note.BadReply slot inbox bytes
