-- believed: how a link stands between two messages, and what it puts out when it passes the next.
use Rattle.std.specs.Prelude.{◌≡◌, ℕ, ◌+◌, List, ◌++◌, length, filter}
use Rattle.mama_link.specs.declared.faults.FaultRow.{FaultRow}
use Rattle.mama_link.specs.Faults.{fault_at}
use Rattle.mama_link.specs.Link.{copies, messages, is_due, held}

-- a link at rest: its rows, how many messages it passed, and those that it holds, with their numbers, in order of number
pub record Standing (T : Type 0) : Type 0 where
  pub rows : List FaultRow
  pub passed : ℕ
  pub held : List (ℕ × T)

-- what contracts see of a link: how it stands, and for how many rows' messages it has room
pub record LinkData (T : Type 0) : Type 0 where
  pub standing : Standing T
  pub room : ℕ

module _ {T : Type 0} where
  -- how a link of these rows stands when the messages x went in
  abbrev pub standing_after : List FaultRow → List T → Standing T
  standing_after rows x = record { rows = rows; passed = length x; held = held rows x }

  -- a link stands for the messages that went in
  abbrev pub StandsFor : List T → Standing T → Type 0
  StandsFor x link = link ≡ standing_after link.rows x

  -- what a link puts out when it passes the message next
  abbrev pub coming : (ℕ → T → T) → Standing T → T → List T
  coming cut link message =
      copies cut (fault_at link.rows (link.passed + 1)) message ++ messages (filter (is_due link.rows (link.passed + 1)) link.held)
