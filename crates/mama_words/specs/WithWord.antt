-- inner: The words that were found of a line, with one more.
use Rattle.std.specs.Prelude.{ℕ, List, [], ◌∷◌, ◌++◌, Option, Some, None, if◌then◌else◌}
use Rattle.mama_words.specs.Parting.{is_empty_word}

-- the words with one more behind them, if it is not empty
abbrev pub with_word : List (List ℕ) → List ℕ → Option (List (List ℕ))
with_word ws w = if is_empty_word w then None else Some (ws ++ w ∷ [])
