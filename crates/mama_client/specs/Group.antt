-- believed: queues in turn.
use Rattle.std.specs.Prelude.{ℕ, ◌+◌, ◌==◌, if◌then◌else◌}

-- how many queues there are, and the one whose turn it is
pub record Turning : Type 0 where
  pub queues : ℕ
  pub next : ℕ

-- after the last queue the first comes again
abbrev pub next_in_turn : Turning → ℕ
next_in_turn g = if g.next + 1 == g.queues then 0 else g.next + 1
