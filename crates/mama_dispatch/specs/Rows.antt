-- inner: A row of the table in which a queue keeps its objects, as contracts see it.
use Rattle.std.specs.Prelude.{◌≡◌, ℕ, ◌+◌, ◌^◌, ◌<◌, ◌≤◌, List, [], ◌∷◌, length, map}
use Rattle.std.specs.Option.{option_map}
use Rattle.mama_event.specs.declared.ids.ObjectId.{ObjectId}
use Rattle.mama_event.specs.Listener.{ListenerData}
use Rattle.mama_dq.specs.Cache.{CacheData}
use Rattle.mama_dispatch.specs.declared.row.Row.{Row}
use Rattle.mama_dispatch.specs.Hearing.{AllSeats}
use Rattle.mama_dispatch.specs.Seats.{SeatData, AreApart}

abbrev pub row_data : {L : Type 0} → (L → ListenerData) → Row L → SeatData
row_data view r = record {
  object = r.object;
  listener = option_map view r.listener;
  muted = r.muted;
  context = r.context;
  calls = r.calls.notes.items;
  room = r.calls.room;
}

-- a cache holds no more updates than its size, which is a number of 32 bits
pub record IsSmall (cache : CacheData) : Type 0 where
  pub size : cache.size < 2 ^ 32
  pub within : length cache.updates ≤ cache.size

-- the caches of all seats are small
abbrev pub AreSmall : List SeatData → Type 0
AreSmall seats = AllSeats (λ s. IsSmall s.context.cache) seats

-- the index has the objects of the seats, no two seats are of one object, and their caches are small
pub record AreKept (index : List ObjectId) (seats : List SeatData) : Type 0 where
  pub keys : index ≡ map (λ s. s.object) seats
  pub apart : AreApart seats
  pub caches : AreSmall seats

-- for how many callbacks more there is room at all seats
abbrev pub rooms : List SeatData → ℕ
rooms [] = 0
rooms (s ∷ ss) = s.room + rooms ss

-- so it is, and so many blocks are promised as there is room
pub record AreHeld (index : List ObjectId) (seats : List SeatData) (promised : ℕ) : Type 0 where
  pub kept : AreKept index seats
  pub room : rooms seats ≡ promised
