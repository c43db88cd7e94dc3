-- believed: what the sources and sinks over memory hold.
use Rattle.std.specs.Prelude.{ℕ, List}

-- the bytes that are left, the most that a call gives, the numbers of the calls that fail, how many calls were made,
-- and how many of them failed
pub record SourceState : Type 0 where
  pub left : List ℕ
  pub piece : ℕ
  pub failing : List ℕ
  pub calls : ℕ
  pub faults : ℕ

-- the bytes that were written, how many have room, the most that a call takes, the numbers of the calls that fail,
-- how many calls were made, and how many of them failed
pub record SinkState : Type 0 where
  pub written : List ℕ
  pub room : ℕ
  pub piece : ℕ
  pub failing : List ℕ
  pub calls : ℕ
  pub faults : ℕ
