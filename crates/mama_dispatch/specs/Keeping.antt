-- inner: What callbacks keep of the seats: what the listeners have heard and given, and that no two seats are of one object.
use Rattle.std.specs.Prelude.{ℕ, ◌≤◌, List, length, Option}
use Rattle.mama_event.specs.declared.ids.ObjectId.{ObjectId}
use Rattle.mama_event.specs.declared.order.Order.{Order}
use Rattle.mama_event.specs.Listener.{ListenerData, most_calls}
use Rattle.mama_dispatch.specs.Seats.{SeatData, AreApart}
use Rattle.mama_dispatch.specs.Hearing.{AllSeats, HeardAt, PlannedAt, ComesAs, ComesWith}

-- no object had more callbacks than a listener counts
abbrev pub AreFew : List SeatData → Type 0
AreFew ss = AllSeats (λ s. length s.calls ≤ most_calls) ss

-- what callbacks keep of the seats
pub record Kept (before after : List SeatData) : Type 0 where
  pub apart : AreApart before → AreApart after
  pub heard : (object : ObjectId) (came : ListenerData) → AreApart before → HeardAt object came before → HeardAt object came after
  pub planned : (object : ObjectId) (f : ℕ → List Order) (count : ℕ) → AreApart before → PlannedAt object f count before → PlannedAt object f count after

-- what an event that may bring a listener keeps of the seats
pub record KeptWith (comes : Option (ObjectId × ListenerData)) (before after : List SeatData) : Type 0 where
  pub heard : (object : ObjectId) (came : ListenerData) → AreApart before → ComesAs object came comes → HeardAt object came before → HeardAt object came after
  pub planned : (object : ObjectId) (f : ℕ → List Order) (count : ℕ) → AreApart before → ComesWith object f count comes → PlannedAt object f count before → PlannedAt object f count after
