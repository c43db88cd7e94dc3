-- inner: What a queue keeps for its notes.
use Rattle.std.specs.Prelude.{◌≡◌, ℕ, ◌≤◌, List, [], length, map, vec_capacity}
use Rattle.std.specs.Global.{Vec}
use Rattle.mama_msg.specs.Field.{FieldData}
use Rattle.mama_event.specs.declared.ids.SubId.{SubId}
use Rattle.mama_event.specs.declared.ids.ObjectId.{ObjectId}
use Rattle.mama_event.specs.declared.market.ImageHead.{ImageHead}
use Rattle.mama_event.specs.declared.callback.CallNote.{CallNote}
use Rattle.mama_event.specs.declared.order.Order.{Order}
use Rattle.mama_event.specs.declared.to_queue.QueueNote.{QueueNote}
use Rattle.mama_dispatch.specs.Journals.{images_left}
use Rattle.mama_dispatch.specs.Seats.{SeatData, Fits}
use Rattle.mama_dispatch.specs.Served.{IsServed}

-- each seat's object with its callbacks
abbrev pub lists_in : List SeatData → List (ObjectId × List CallNote)
lists_in seats = map (λ s. (s.object, s.calls)) seats

-- There is room for a list of notes of each seat, and the images are those that were left, whatever the orders are that
-- the callbacks fit.
pub record IsNoted (journal : List (ℕ × QueueNote)) (seats : List SeatData) (room : Vec (ObjectId × Vec CallNote)) (images : List (SubId × ImageHead × List FieldData)) : Type 0 where
  pub none : room.items ≡ []
  pub enough : length seats ≤ vec_capacity room
  pub left : (orders : ObjectId → ℕ → List Order) → Fits orders seats → images ≡ images_left orders journal

-- a queue is served, and its notes are kept
pub record IsServing (journal : List (ℕ × QueueNote)) (count : ℕ) (seats : List SeatData) (room : Vec (ObjectId × Vec CallNote)) (images : List (SubId × ImageHead × List FieldData)) : Type 0 where
  pub served : IsServed journal count seats
  pub noted : IsNoted journal seats room images
