-- Worked runs: in which order clients read their clock, computed by its definition.
use Rattle.std.proofs.Common.{◌≡◌, List, [], ◌∷◌, refl}
use Rattle.mama_script.specs.declared.client.ClientLine.{ClientLine}
use Rattle.mama_script.specs.declared.client.ClientLine.TheVariants.{Now, NowClock, Pause}
use Rattle.mama_seats.specs.Moments.{answers, remaining, all_reads, read_in_rounds}

-- a clock gives its moments in turn, and then the last again and again
pub again : answers 4 (10 ∷ 20 ∷ []) ≡ 10 ∷ 20 ∷ 20 ∷ 20 ∷ []
again = refl

-- a clock without moments says 0
pub silent : answers 2 [] ≡ 0 ∷ 0 ∷ []
silent = refl

-- one moment of three is gone after a call
pub later : remaining 1 (10 ∷ 20 ∷ 30 ∷ []) ≡ 20 ∷ 30 ∷ []
later = refl

-- two clients take turns, round by round
abbrev pub two : List (List ClientLine)
two = (NowClock ∷ NowClock ∷ []) ∷ (NowClock ∷ []) ∷ []

pub in_turn : read_in_rounds 2 (all_reads ((10 ∷ 30 ∷ []) ∷ (20 ∷ []) ∷ []) two) ≡ 10 ∷ 20 ∷ 30 ∷ []
in_turn = refl

-- a pause of two rounds lets the other client read first
abbrev pub paused : List (List ClientLine)
paused = (Pause 2 ∷ NowClock ∷ []) ∷ (NowClock ∷ Now 7 ∷ NowClock ∷ []) ∷ []

pub after_pause : read_in_rounds 3 (all_reads ((20 ∷ []) ∷ (10 ∷ 30 ∷ []) ∷ []) paused) ≡ 10 ∷ 20 ∷ 30 ∷ []
after_pause = refl
