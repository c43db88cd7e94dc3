-- believed: What a clock answers, and in which order the clients of a script read it.
use Rattle.std.specs.Prelude.{◌≡◌, ℕ, zero, suc, ◌≤◌, List, [], ◌∷◌, ◌++◌, length, replicate, slice_index, slice_index_or, Option, Some, IfSome}
use Rattle.std.specs.List.{All, flat_map}
use Rattle.mama_edge.specs.Told.{after_first}
use Rattle.mama_script.specs.declared.client.ClientLine.{ClientLine}
use Rattle.mama_script.specs.declared.client.ClientLine.TheVariants as line
use Rattle.mama_rules_rounds.specs.Client.{first_moment, later_moments}

-- what a clock answers in so many calls, where these moments are left to it
abbrev pub answers : ℕ → List ℕ → List ℕ
answers zero told = []
answers (suc n) told = slice_index told 0 ∷ answers n (after_first told)

-- the moments that are left to it after as many calls
abbrev pub remaining : ℕ → List ℕ → List ℕ
remaining zero told = told
remaining (suc n) told = remaining n (after_first told)

-- The clock was called once for each of these moments: where it told what was left to it, they are its answers, in
-- order, and what is left to it now is what so many calls leave.
abbrev pub Answered : Option (List ℕ) → Option (List ℕ) → List ℕ → Type 0
Answered old new moments = IfSome old (λ told. (moments ≡ answers (length moments) told) × (new ≡ Some (remaining (length moments) told)))

-- what a line reads, step by step: one moment, where it reads the clock
abbrev pub line_reads : List ℕ → ClientLine → List (List ℕ)
line_reads moments line.NowClock = (first_moment moments ∷ []) ∷ []
line_reads moments (line.Pause n) = replicate n []
line_reads moments _ = [] ∷ []

-- the moments that are left after a line
abbrev pub after_reading : List ℕ → ClientLine → List ℕ
after_reading moments line.NowClock = later_moments moments
after_reading moments _ = moments

-- what a client with these lines reads, step by step, where these are the moments that it reads
abbrev pub client_reads : List ℕ → List ClientLine → List (List ℕ)
client_reads moments [] = []
client_reads moments (l ∷ ls) = line_reads moments l ++ client_reads (after_reading moments l) ls

-- the same of each client
abbrev pub all_reads : List (List ℕ) → List (List ClientLine) → List (List (List ℕ))
all_reads [] clients = []
all_reads (moments ∷ rest) [] = []
all_reads (moments ∷ rest) (lines ∷ clients) = client_reads moments lines ∷ all_reads rest clients

-- what is read in the round of a number: each client, in order, makes its step of that number
abbrev pub read_in_round : ℕ → List (List (List ℕ)) → List ℕ
read_in_round n reads = flat_map (λ steps. slice_index_or steps n []) reads

-- what is read in so many rounds
abbrev pub read_in_rounds : ℕ → List (List (List ℕ)) → List ℕ
read_in_rounds zero reads = []
read_in_rounds (suc n) reads = read_in_rounds n reads ++ read_in_round n reads

-- Clients with these lines read these moments, each its own list: in the order in which the rounds come to them, they
-- are what the clock answered, which was called once for each, and not again.
pub record AreHeard (old new : Option (List ℕ)) (clients : List (List ClientLine)) (moments : List (List ℕ)) : Type 0 where
  pub rounds : ℕ
  pub whole : All (λ (steps : List (List ℕ)). length steps ≤ rounds) (all_reads moments clients)
  pub answered : Answered old new (read_in_rounds rounds (all_reads moments clients))
