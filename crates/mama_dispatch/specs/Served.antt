-- believed: A queue that is served: its journal, and the seats of its objects.
use Rattle.std.specs.Prelude.{◌≡◌, ℕ, List, [], map}
use Rattle.std.specs.Option.{option_map_or}
use Rattle.mama_journal.specs.Journal.{count_of}
use Rattle.mama_event.specs.declared.ids.ObjectId.{ObjectId}
use Rattle.mama_event.specs.declared.callback.CallNote.{CallNote}
use Rattle.mama_event.specs.declared.order.Order.{Order}
use Rattle.mama_event.specs.declared.to_queue.QueueNote.{QueueNote}
use Rattle.mama_rules_queue.specs.Queue.{deeds, is_fin}
use Rattle.mama_dispatch.specs.Seats.{SeatData, seat_of, with_room, Fits}
use Rattle.mama_dispatch.specs.Standing.{Stands}

-- A queue: its number, what it took, and the seats of its objects. Of their room nothing is told.
pub record Served : Type 0 where
  pub queue : ℕ
  pub journal : List (ℕ × QueueNote)
  pub seats : List SeatData

-- seats without a word on their room
abbrev pub told_seats : List SeatData → List SeatData
told_seats ss = map (with_room 0) ss

-- Whatever the orders are that the callbacks fit, the seats are those that the journal says.
pub record IsServed (journal : List (ℕ × QueueNote)) (count : ℕ) (ss : List SeatData) : Type 0 where
  pub fins : count ≡ count_of is_fin journal
  pub stands : (orders : ObjectId → ℕ → List Order) → Fits orders ss → Stands journal (deeds orders journal) ss

-- the notes of an object's callbacks; none, where it has no seat
abbrev pub calls_at : ObjectId → List SeatData → List CallNote
calls_at o ss = option_map_or (λ s. s.calls) (seat_of o ss) []
