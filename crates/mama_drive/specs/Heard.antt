-- inner: What the clients of a system hear of their clock.
use Rattle.std.specs.Prelude.{◌≡◌, ℕ, zero, suc, List, [], ◌∷◌, ◌++◌, map, drop, length, Option, Some, None, slice_index_or, slice_set}
use Rattle.mama_seats.specs.Sender.{first_step, later_steps}
use Rattle.mama_seats.specs.Stand.{Stand, still_read}
use Rattle.mama_seats.specs.Moments.{Answered, remaining, read_in_rounds}
use Rattle.mama_drive.specs.Scene.{AreMoments}

-- what each client has still to read, step by step, if these are all the moments that they will have read in the end
abbrev pub unread : List (List ℕ) → List Stand → List (List (List ℕ))
unread [] clients = []
unread (m ∷ ms) [] = []
unread (m ∷ ms) (c ∷ cs) = still_read m c ∷ unread ms cs

-- The clock answered what the clients read, and whatever it will tell later, that stands so to what they had to read
-- before and have to read still.
pub record Hears (R : List (List (List ℕ)) → List (List (List ℕ)) → List ℕ → Type 0) (told left : Option (List ℕ)) (old new : List Stand) : Type 0 where
  pub heard : List ℕ
  pub answered : Answered told left heard
  pub reads : (moments : List (List ℕ)) → AreMoments moments new → R (unread moments old) (unread moments new) heard

-- the client of a number made a step
abbrev pub StepRead : ℕ → List (List (List ℕ)) → List (List (List ℕ)) → List ℕ → Type 0
StepRead c old new heard = (heard ≡ first_step (slice_index_or old c [])) × (new ≡ slice_set old c (later_steps (slice_index_or old c [])))

-- what the clients that are numbered below n read in their first steps, and what is to be read after those
abbrev pub first_steps : ℕ → List (List (List ℕ)) → List ℕ
first_steps zero reads = []
first_steps (suc n) reads = first_steps n reads ++ first_step (slice_index_or reads n [])

abbrev pub after_steps : ℕ → List (List (List ℕ)) → List (List (List ℕ))
after_steps zero reads = reads
after_steps (suc n) reads = slice_set (after_steps n reads) n (later_steps (slice_index_or (after_steps n reads) n []))

-- those clients made a step each
abbrev pub StepsRead : ℕ → List (List (List ℕ)) → List (List (List ℕ)) → List ℕ → Type 0
StepsRead n old new heard = (heard ≡ first_steps n old) × (new ≡ after_steps n old)

-- so many rounds were made
abbrev pub RoundsRead : ℕ → List (List (List ℕ)) → List (List (List ℕ)) → List ℕ → Type 0
RoundsRead n old new heard = (heard ≡ read_in_rounds n old) × (new ≡ map (drop n) old)

-- some number of rounds were made
pub record HearsRounds (told left : Option (List ℕ)) (old new : List Stand) : Type 0 where
  pub count : ℕ
  pub rounds : Hears (RoundsRead count) told left old new

-- what is left to a clock after it answered these moments
abbrev pub left_behind : List ℕ → Option (List ℕ) → Option (List ℕ)
left_behind heard None = None
left_behind heard (Some told) = Some (remaining (length heard) told)
