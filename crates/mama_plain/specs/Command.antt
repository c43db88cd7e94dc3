-- believed: Which words are a command.
use Rattle.std.specs.Prelude.{ℕ, Bool, true, false, ◌||◌, List, [], ◌∷◌, codes, Option, Some, None, if◌then◌else◌}
use Rattle.std.specs.Str.{bytes_eq}
use Rattle.mama_words.specs.Number.{number_in}

-- the words are the one word serial
abbrev pub is_serial : List (List ℕ) → Bool
is_serial [] = false
is_serial (word ∷ []) = bytes_eq word (codes "serial")
is_serial (word ∷ next ∷ more) = false

-- the words are the one word check
abbrev pub is_check : List (List ℕ) → Bool
is_check [] = false
is_check (word ∷ []) = bytes_eq word (codes "check")
is_check (word ∷ next ∷ more) = false

-- the words are the one word rewrite
abbrev pub is_rewrite : List (List ℕ) → Bool
is_rewrite [] = false
is_rewrite (word ∷ []) = bytes_eq word (codes "rewrite")
is_rewrite (word ∷ next ∷ more) = false

-- the words are the one word replay
abbrev pub is_replay : List (List ℕ) → Bool
is_replay [] = false
is_replay (word ∷ []) = bytes_eq word (codes "replay")
is_replay (word ∷ next ∷ more) = false

-- the seed where the words are gen and a seed: a number below 2 ^ 64 in its one decimal spelling
abbrev pub seed_in : List (List ℕ) → Option ℕ
seed_in [] = None
seed_in (word ∷ []) = None
seed_in (word ∷ seed ∷ []) = if bytes_eq word (codes "gen") then number_in seed else None
seed_in (word ∷ seed ∷ next ∷ more) = None

-- there is a seed
abbrev pub is_there : Option ℕ → Bool
is_there None = false
is_there (Some seed) = true

-- the words are gen and a seed
abbrev pub is_gen : List (List ℕ) → Bool
is_gen words = is_there (seed_in words)

-- the words are a command
abbrev pub is_command : List (List ℕ) → Bool
is_command words = is_serial words || (is_check words || (is_rewrite words || (is_replay words || is_gen words)))
