-- believed: what a link lets through. The messages that go into a link are numbered from 1, `rows` are its fault rows, and `cut keep message` is what
-- is left of a message of which the first `keep` bytes come through.
use Rattle.std.specs.Prelude.{ℕ, ◌+◌, Bool, false, ◌==◌, nat_lt, List, [], ◌∷◌, ◌++◌, length, Option, None, Some, filter, map}
use Rattle.std.specs.List.{enumerate_from, flat_map, range_with_len}
use Rattle.mama_link.specs.declared.faults.Fault.{Fault}
use Rattle.mama_link.specs.declared.faults.Fault.TheVariants.{Lose, Dup, Hold, Cut}
use Rattle.mama_link.specs.declared.faults.FaultRow.{FaultRow}
use Rattle.mama_link.specs.Faults.{fault_at}

-- whether the message numbered i, which has this fault if any, is held until the place
abbrev pub is_held_until : ℕ → ℕ → Option Fault → Bool
is_held_until place i None = false
is_held_until place i (Some Lose) = false
is_held_until place i (Some Dup) = false
is_held_until place i (Some (Hold by)) = i + by == place
is_held_until place i (Some (Cut keep)) = false

-- whether it is held until after the place
abbrev pub is_held_after : ℕ → ℕ → Option Fault → Bool
is_held_after place i None = false
is_held_after place i (Some Lose) = false
is_held_after place i (Some Dup) = false
is_held_after place i (Some (Hold by)) = nat_lt place (i + by)
is_held_after place i (Some (Cut keep)) = false

module _ {T : Type 0} where
  -- what comes out of a message in its own place: the message, but nothing where it is lost or held, twice where it is repeated, and its first
  -- bytes alone where it is cut
  abbrev pub copies : (ℕ → T → T) → Option Fault → T → List T
  copies cut None message = message ∷ []
  copies cut (Some Lose) message = []
  copies cut (Some Dup) message = message ∷ message ∷ []
  copies cut (Some (Hold by)) message = []
  copies cut (Some (Cut keep)) message = cut keep message ∷ []

  -- all that comes out of a message, in its own place or later: nothing where it is lost, two where it is repeated, and else one
  abbrev pub shares : (ℕ → T → T) → Option Fault → T → List T
  shares cut None message = message ∷ []
  shares cut (Some Lose) message = []
  shares cut (Some Dup) message = message ∷ message ∷ []
  shares cut (Some (Hold by)) message = message ∷ []
  shares cut (Some (Cut keep)) message = cut keep message ∷ []

  -- the messages with their numbers
  abbrev pub numbered : List T → List (ℕ × T)
  numbered x = enumerate_from 1 x

  -- the messages without their numbers
  abbrev pub messages : List (ℕ × T) → List T
  messages entries = map (λ (entry : ℕ × T). entry.1) entries

  -- what comes out of one numbered message in its own place
  abbrev pub own : (ℕ → T → T) → List FaultRow → ℕ × T → List T
  own cut rows entry = copies cut (fault_at rows entry.0) entry.1

  -- all that comes out of one numbered message
  abbrev pub shared : (ℕ → T → T) → List FaultRow → ℕ × T → List T
  shared cut rows entry = shares cut (fault_at rows entry.0) entry.1

  -- whether a numbered message is held until the place
  abbrev pub is_due : List FaultRow → ℕ → ℕ × T → Bool
  is_due rows place entry = is_held_until place entry.0 (fault_at rows entry.0)

  -- whether a numbered message is held until after the place
  abbrev pub is_held : List FaultRow → ℕ → ℕ × T → Bool
  is_held rows place entry = is_held_after place entry.0 (fault_at rows entry.0)

  -- what comes out at a place when the messages x go in: the own output of the message of that number, and then the messages held until there, in order of number
  abbrev pub emit : (ℕ → T → T) → List FaultRow → List T → ℕ → List T
  emit cut rows x place =
      flat_map (own cut rows) (filter (λ (entry : ℕ × T). entry.0 == place) (numbered x)) ++ messages (filter (is_due rows place) (numbered x))

  -- the messages that are still held when x went in, with their numbers, in order of number
  abbrev pub held : List FaultRow → List T → List (ℕ × T)
  held rows x = filter (is_held rows (length x)) (numbered x)

  -- what comes out at the link's end: the messages still held, in order of number
  abbrev pub rest : List FaultRow → List T → List T
  rest rows x = messages (held rows x)

  -- all that comes out of a link into which the messages x go before its end
  abbrev pub through : (ℕ → T → T) → List FaultRow → List T → List T
  through cut rows x = flat_map (emit cut rows x) (range_with_len 1 (length x)) ++ rest rows x
