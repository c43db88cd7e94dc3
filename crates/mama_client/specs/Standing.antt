-- believed: what a client knows.
use Rattle.std.specs.Prelude.{ℕ, Bool}

-- A client: its number, how many topics and queues there are, how many numbers of each kind of object it gave, and
-- whether it is done.
pub record ClientData : Type 0 where
  pub number : ℕ
  pub topics : ℕ
  pub queues : ℕ
  pub subs : ℕ
  pub timers : ℕ
  pub inboxes : ℕ
  pub done : Bool
