-- believed: A client's seat: where the client stands in its lines, and the moments that it has read.
use Rattle.std.specs.Prelude.{◌≡◌, ℕ, zero, suc, ◌+◌, Bool, true, false, List, [], ◌∷◌, ◌++◌, length, drop, replicate, Option}
use Rattle.mama_script.specs.declared.client.ClientLine.{ClientLine}
use Rattle.mama_rules_queue.specs.Queue.{QueuePut}
use Rattle.mama_rules_rounds.specs.Client.{Standing, steps_from, reads_clock, clock_lines}
use Rattle.mama_plans.specs.declared.names.Names.{Names}
use Rattle.mama_plans.specs.Names.{standing_of}
use Rattle.mama_seats.specs.Moments.{Answered, client_reads}
use Rattle.mama_seats.specs.Past.{past, is_empty_line}
use Rattle.mama_seats.specs.Sender.{first_step, later_steps}

-- the client's number, how many queues there are, whether it is done, how many steps it still pauses, what it has
-- named so far, the lines that are left, and the moments that its clock has told
pub record Stand : Type 0 where
  pub number : ℕ
  pub queues : ℕ
  pub over : Bool
  pub pause : ℕ
  pub names : Names
  pub lines : List ClientLine
  pub read : List ℕ

-- the same of a client whose lines are elsewhere: the place of its next line in place of the lines that are left
pub record Walk : Type 0 where
  pub number : ℕ
  pub queues : ℕ
  pub over : Bool
  pub pause : ℕ
  pub names : Names
  pub line : ℕ
  pub read : List ℕ

-- a client that walks along these lines
abbrev pub stand_of : List ClientLine → Walk → Stand
stand_of lines w = record { number = w.number; queues = w.queues; over = w.over; pause = w.pause; names = w.names; lines = drop w.line lines; read = w.read }

-- the first of some lines reads the clock
abbrev pub reads_first : List ClientLine → Bool
reads_first [] = false
reads_first (l ∷ ls) = reads_clock l

-- the next step is a line that reads the clock
abbrev pub reads_at : Bool → ℕ → List ClientLine → Bool
reads_at true pause lines = false
reads_at false (suc pause) lines = false
reads_at false zero lines = reads_first (past is_empty_line lines)

abbrev pub reads_next : Stand → Bool
reads_next s = reads_at s.over s.pause s.lines

-- where it stands, if these are all the moments that its clock will have told in the end
abbrev pub standing_in : List ℕ → Stand → Standing
standing_in moments s = standing_of s.names (drop (length s.read) moments)

abbrev pub left_after : {E : Type 0} → Bool → ℕ → List (List E) → List (List E)
left_after true pause steps = []
left_after false pause steps = replicate pause [] ++ steps

-- the steps that it has still to make
abbrev pub client_left : List ℕ → Stand → List (List QueuePut)
client_left moments s = left_after s.over s.pause (steps_from s.queues s.number (standing_in moments s) s.lines)

-- a list begins with another
abbrev pub BeginsWith : List ℕ → List ℕ → Type 0
BeginsWith front whole = (rest : List ℕ) × (front ++ rest ≡ whole)

-- how many moments it will have read in the end
abbrev pub reading : Stand → ℕ
reading s = length s.read + clock_lines s.lines

-- what it has still to read, step by step, if these are all the moments that it will have read in the end
abbrev pub still_read : List ℕ → Stand → List (List ℕ)
still_read moments s = left_after s.over s.pause (client_reads (drop (length s.read) moments) s.lines)

-- one that is done has no lines left
abbrev pub Ends : Stand → Type 0
Ends s = s.over ≡ true → s.lines ≡ []

-- A client made its next step, and these are its puts, whatever its clock will tell later. It read a moment exactly
-- where it did a line that reads one.
pub record IsStep (old new : Stand) (puts : List QueuePut) : Type 0 where
  pub number : new.number ≡ old.number
  pub queues : new.queues ≡ old.queues
  pub read : BeginsWith old.read new.read
  pub puts_are : (moments : List ℕ) → BeginsWith new.read moments → first_step (client_left moments old) ≡ puts
  pub left : (moments : List ℕ) → BeginsWith new.read moments → client_left moments new ≡ later_steps (client_left moments old)
  pub told : reading new ≡ reading old
  pub ends : Ends old → Ends new

-- A client made its next step, whatever its clock will tell later: the clock answered what the step reads, which is one
-- moment where the step does a line that reads the clock, and else was not called.
pub record IsReading (told left : Option (List ℕ)) (old new : Stand) : Type 0 where
  pub heard : List ℕ
  pub answered : Answered told left heard
  pub step : (moments : List ℕ) → BeginsWith new.read moments → heard ≡ first_step (still_read moments old)
  pub later : (moments : List ℕ) → BeginsWith new.read moments → still_read moments new ≡ later_steps (still_read moments old)
