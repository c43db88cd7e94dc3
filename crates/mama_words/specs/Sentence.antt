-- believed: Words in a row, with one space between each two, and what a word is.
use Rattle.std.specs.Prelude.{ℕ, List, [], ◌∷◌, ◌++◌}
use Rattle.std.specs.List.{flat_map}

-- a word behind a space
abbrev pub spaced : List ℕ → List ℕ
spaced w = 32 ∷ w

-- the line that the words make
abbrev pub sentence : List (List ℕ) → List ℕ
sentence [] = []
sentence (w ∷ ws) = w ++ flat_map spaced ws
