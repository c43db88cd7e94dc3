-- believed: Which words are a command of the program, play and soak among them.
use Rattle.std.specs.Prelude.{ℕ, Bool, ◌||◌, List, [], ◌∷◌, codes, Option, None, is_some, option_and_then, option_map, if◌then◌else◌}
use Rattle.std.specs.Str.{bytes_eq}
use Rattle.mama_words.specs.Number.{number_in, between_in}
use Rattle.mama_plain.specs.Command.{is_command, is_there}

-- the number of workers where the words are play and a number: from 1 to 64, in its one decimal spelling
abbrev pub workers_in : List (List ℕ) → Option ℕ
workers_in [] = None
workers_in (word ∷ []) = None
workers_in (word ∷ number ∷ []) = if bytes_eq word (codes "play") then between_in 1 64 number else None
workers_in (word ∷ number ∷ next ∷ more) = None

-- the words are play and a number of workers
abbrev pub is_play : List (List ℕ) → Bool
is_play words = is_there (workers_in words)

-- a seed and a number of workers, from these spellings: the seed below 2 ^ 64, the workers from 1 to 64
abbrev pub seed_and_workers : List ℕ → List ℕ → Option (ℕ × ℕ)
seed_and_workers seed number = option_and_then (λ s. option_map (λ w. (s, w)) (between_in 1 64 number)) (number_in seed)

-- the seed and the number of workers where the words are soak and these
abbrev pub soak_in : List (List ℕ) → Option (ℕ × ℕ)
soak_in [] = None
soak_in (word ∷ []) = None
soak_in (word ∷ seed ∷ []) = None
soak_in (word ∷ seed ∷ number ∷ []) = if bytes_eq word (codes "soak") then seed_and_workers seed number else None
soak_in (word ∷ seed ∷ number ∷ next ∷ more) = None

-- the words are soak, a seed and a number of workers
abbrev pub is_soak : List (List ℕ) → Bool
is_soak words = is_some (soak_in words)

-- the words are a command of the program
abbrev pub is_form : List (List ℕ) → Bool
is_form words = is_play words || (is_soak words || is_command words)
