-- believed: what a queue takes, as plain data, and what its ports may put: for each slot blocks of one object each.
use Rattle.std.specs.Prelude.{ℕ, Bool, true, false, ◌&&◌, not, ◌==◌, List, [], ◌∷◌, ◌++◌, filter, fold, length}
use Rattle.std.specs.List.{list_any}
use Rattle.mama_event.specs.Object.{same_object}
use Rattle.mama_event.specs.Wire.{arrival_of, reply_of}
use Rattle.mama_event.specs.Arrival.{code_of}
use Rattle.mama_event.specs.declared.ids.ObjectId.{ObjectId}
use Rattle.mama_event.specs.declared.ids.ObjectId.TheVariants as object
use Rattle.mama_event.specs.declared.to_queue.Make.{Make}
use Rattle.mama_event.specs.declared.to_queue.Make.TheVariants as make
use Rattle.mama_event.specs.declared.to_queue.ToQueue.{ToQueue}
use Rattle.mama_event.specs.declared.to_queue.ToQueue.TheVariants as event
use Rattle.mama_event.specs.declared.to_queue.QueueNote.{QueueNote}
use Rattle.mama_event.specs.declared.to_queue.QueueNote.TheVariants as note
use Rattle.mama_event.specs.Noted.{delivered_note, replied_note}

-- the note of an event: the same data, with the listener's tag in place of the listener, and with what is read of bytes
abbrev pub note_of : {L : Type 0} → (L → ObjectId) → ToQueue L → QueueNote
note_of tagged (event.Create slot object make listener) = note.Create slot object make (tagged listener)
note_of tagged (event.Deliver slot sub msg) = delivered_note slot sub (arrival_of msg)
note_of tagged (event.Reply slot inbox body) = replied_note slot inbox (reply_of body)
note_of tagged (event.Tick slot timer moment) = note.Tick slot timer moment
note_of tagged (event.Gone slot object) = note.Gone slot object
note_of tagged event.Fin = note.Fin

-- the code of the fault in the bytes of a note, and 0 where it has a message or none
abbrev pub note_code : QueueNote → ℕ
note_code (note.Bad slot sub kind sender seq bytes) = code_of bytes
note_code (note.BadReply slot inbox bytes) = code_of bytes
note_code _ = 0

-- nothing follows a Fin
abbrev pub is_last : QueueNote → Bool
is_last (note.Create slot object make tag) = false
is_last (note.Deliver slot sub msg) = false
is_last (note.Reply slot inbox body) = false
is_last (note.Bad slot sub kind sender seq bytes) = false
is_last (note.BadReply slot inbox bytes) = false
is_last (note.Tick slot timer moment) = false
is_last (note.Gone slot object) = false
is_last note.Fin = true

-- a block of a slot: from the Create of an object in it to the Gone of that object
pub record Block : Type 0 where
  pub slot : ℕ
  pub object : ObjectId

-- a Create begins a block of its slot, and a Gone ends the block of its slot
abbrev pub blocks_after : List Block → QueueNote → List Block
blocks_after blocks (note.Create slot object make tag) = blocks ++ record { slot = slot; object = object } ∷ []
blocks_after blocks (note.Deliver slot sub msg) = blocks
blocks_after blocks (note.Reply slot inbox body) = blocks
blocks_after blocks (note.Bad slot sub kind sender seq bytes) = blocks
blocks_after blocks (note.BadReply slot inbox bytes) = blocks
blocks_after blocks (note.Tick slot timer moment) = blocks
blocks_after blocks (note.Gone slot object) = filter (λ b. not (b.slot == slot)) blocks
blocks_after blocks note.Fin = blocks

-- the blocks that are not finished, in the order in which they began
abbrev pub open_blocks : List QueueNote → List Block
open_blocks notes = fold blocks_after [] notes

-- a block of this slot is not finished
abbrev pub is_taken : ℕ → List QueueNote → Bool
is_taken slot notes = list_any (λ b. b.slot == slot) (open_blocks notes)

-- a block of this object in this slot is not finished
abbrev pub is_live_in : ℕ → ObjectId → List QueueNote → Bool
is_live_in slot object notes = list_any (λ b. b.slot == slot && same_object b.object object) (open_blocks notes)

-- an event begins a block of this object
abbrev pub creates : ObjectId → QueueNote → Bool
creates object (note.Create slot made make tag) = same_object made object
creates object (note.Deliver slot sub msg) = false
creates object (note.Reply slot inbox body) = false
creates object (note.Bad slot sub kind sender seq bytes) = false
creates object (note.BadReply slot inbox bytes) = false
creates object (note.Tick slot timer moment) = false
creates object (note.Gone slot gone) = false
creates object note.Fin = false

-- port 0 is for subscriptions and inboxes alone, and port 1 for timers alone
abbrev pub is_for_port : ℕ → ObjectId → Bool
is_for_port port (object.Sub sub) = port == 0
is_for_port port (object.Timer timer) = port == 1
is_for_port port (object.Inbox inbox) = port == 0

-- what an object is made as is of its kind
abbrev pub is_made_as : Make → ObjectId → Bool
is_made_as (make.Sub kind cache strategy) (object.Sub sub) = true
is_made_as (make.Sub kind cache strategy) (object.Timer timer) = false
is_made_as (make.Sub kind cache strategy) (object.Inbox inbox) = false
is_made_as make.Timer (object.Sub sub) = false
is_made_as make.Timer (object.Timer timer) = true
is_made_as make.Timer (object.Inbox inbox) = false
is_made_as make.Inbox (object.Sub sub) = false
is_made_as make.Inbox (object.Timer timer) = false
is_made_as make.Inbox (object.Inbox inbox) = true

-- an event fits those before it: a Create takes a free slot for an object that has had no block, of its port and
-- made as its kind; a message, a reply, be they read or bad, a tick and a Gone belong to the unfinished block of their slot; and a Fin
-- comes after finished blocks alone
abbrev pub fits : ℕ → List QueueNote → QueueNote → Bool
fits port before (note.Create slot object make tag) =
    not (is_taken slot before) && not (list_any (creates object) before) && is_for_port port object && is_made_as make object
fits port before (note.Deliver slot sub msg) = is_live_in slot (object.Sub sub) before
fits port before (note.Reply slot inbox body) = is_live_in slot (object.Inbox inbox) before
fits port before (note.Bad slot sub kind sender seq bytes) = is_live_in slot (object.Sub sub) before
fits port before (note.BadReply slot inbox bytes) = is_live_in slot (object.Inbox inbox) before
fits port before (note.Tick slot timer moment) = is_live_in slot (object.Timer timer) before
fits port before (note.Gone slot object) = is_live_in slot object before
fits port before note.Fin = length (open_blocks before) == 0
