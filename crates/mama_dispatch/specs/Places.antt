-- inner: The place of an object's seat.
use Rattle.std.specs.Prelude.{◌≡◌, ℕ, ◌<◌, Bool, true, false, List, length, slice_index_or, Option, None, Some, ◌≤◌, [], ◌∷◌, ◌++◌}
use Rattle.mama_event.specs.declared.ids.ObjectId.{ObjectId}
use Rattle.mama_event.specs.declared.order.Order.{Order}
use Rattle.mama_event.specs.declared.to_queue.Make.{Make}
use Rattle.mama_event.specs.Listener.{ListenerData}
use Rattle.mama_event.specs.Object.{same_object}
use Rattle.mama_rules_queue.specs.Queue.{ends}
use Rattle.mama_dispatch.specs.Seats.{SeatData, new_seat}

-- a seat of this object stands there
pub record IsSeatOf (o : ObjectId) (place : ℕ) (seats : List SeatData) : Type 0 where
  pub within : place < length seats
  pub this : (d : SeatData) → same_object o (slice_index_or seats place d).object ≡ true

-- the first seat of this object stands there
pub record IsPlace (o : ObjectId) (place : ℕ) (seats : List SeatData) : Type 0 where
  pub within : place < length seats
  pub this : (d : SeatData) → same_object o (slice_index_or seats place d).object ≡ true
  pub before : (k : ℕ) (d : SeatData) → k < place → same_object o (slice_index_or seats k d).object ≡ false

-- the object that an order ends, or none
abbrev pub is_ended : Option ObjectId → ObjectId → Bool
is_ended None x = false
is_ended (Some o) x = same_object o x

pub record IsEnded (order : Order) (o : Option ObjectId) : Type 0 where
  pub each : (x : ObjectId) → ends x order ≡ is_ended o x

-- an object got its seat, with room for one callback or more
pub record IsOpened (object : ObjectId) (make : Make) (l : ListenerData) (before after : List SeatData) : Type 0 where
  pub room : ℕ
  pub some : 1 ≤ room
  pub seats : after ≡ before ++ new_seat object make l room ∷ []
