-- believed: When the notes of two queues are the same data.
use Rattle.std.specs.Prelude.{◌≡◌, ℕ, Bool, ◌&&◌, ◌==◌, List}
use Rattle.std.specs.Bool.{Decides}
use Rattle.std.specs.Cmp.Lexicographic.{pointwise}
use Rattle.mama_msg.specs.Field.{FieldData}
use Rattle.mama_msg.specs.Equality.{same_message}
use Rattle.mama_event.specs.declared.ids.SubId.{SubId}
use Rattle.mama_event.specs.declared.ids.ObjectId.{ObjectId}
use Rattle.mama_event.specs.declared.market.ImageHead.{ImageHead}
use Rattle.mama_event.specs.declared.callback.CallNote.{CallNote}
use Rattle.mama_event.specs.declared.to_queue.QueueNote.{QueueNote}
use Rattle.mama_event.specs.Object.{same_sub, same_object}
use Rattle.mama_event.specs.Equality.{same_quality, same_queue_note, same_call_note}
use Rattle.mama_dispatch.specs.declared.notes.ServingNotes.{ServingNotes}
use Rattle.mama_dispatch.specs.Notes.{lists_of}

-- what a queue gave up, as plain data
pub record NotesData : Type 0 where
  pub taken : List (ℕ × QueueNote)
  pub calls : List (ObjectId × List CallNote)
  pub images : List (SubId × ImageHead × List FieldData)

abbrev pub notes_data : ServingNotes → NotesData
notes_data n = record { taken = n.taken.items; calls = lists_of n.calls.items; images = n.images.items }

-- two events came by one port, and are one
abbrev pub same_taken : ℕ × QueueNote → ℕ × QueueNote → Bool
same_taken a b = a.0 == b.0 && same_queue_note a.1 b.1

-- two objects are one, and had the same callbacks with the same orders
abbrev pub same_calls : ObjectId × List CallNote → ObjectId × List CallNote → Bool
same_calls a b = same_object a.0 b.0 && pointwise same_call_note a.1 b.1

-- two images are of one subscription, and the same
abbrev pub same_image : SubId × ImageHead × List FieldData → SubId × ImageHead × List FieldData → Bool
same_image a b = same_sub a.0 b.0 && a.1.sender == b.1.sender && a.1.last == b.1.last && same_quality a.1.quality b.1.quality && same_message a.2 b.2

abbrev pub same_data : NotesData → NotesData → Bool
same_data a b = pointwise same_taken a.taken b.taken && pointwise same_calls a.calls b.calls && pointwise same_image a.images b.images

-- the notes of two queues are the same data
abbrev pub same_notes : ServingNotes → ServingNotes → Bool
same_notes a b = same_data (notes_data a) (notes_data b)

-- A law: the test holds where both are the same data, and nowhere else.
abbrev pub NotesCompareExactly : Type 0
NotesCompareExactly = (a b : NotesData) → Decides (same_data a b) (a ≡ b)
