-- believed: what contracts see of a prepared pass.
use Rattle.std.specs.Prelude.{◌≡◌, ℕ, ◌+◌, ◌<◌, length, Option, IsSome}
use Rattle.mama_link.specs.declared.faults.Fault.{Fault}
use Rattle.mama_link.specs.Faults.{fault_at}
use Rattle.mama_link.specs.Standing.{LinkData, coming}

-- the message that is to pass, its number, what befalls it, and how many messages this pass will put out
pub record Readied (T : Type 0) : Type 0 where
  pub place : ℕ
  pub fault : Option Fault
  pub message : T
  pub len : ℕ

-- a pass is prepared for a link: it is the link's next, and the link has room to hold its message
pub record IsPreparedFor {T : Type 0} (cut : ℕ → T → T) (link : LinkData T) (prepared : Readied T) : Type 0 where
  pub place : prepared.place ≡ link.standing.passed + 1
  pub fault : prepared.fault ≡ fault_at link.standing.rows prepared.place
  pub len : prepared.len ≡ length (coming cut link.standing prepared.message)
  pub room : IsSome prepared.fault → 0 < link.room
