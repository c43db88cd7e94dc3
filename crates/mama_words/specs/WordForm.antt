-- believed: What a word is, so that words with one space between them are parted again.
use Rattle.std.specs.Prelude.{◌≡◌, ℕ, Bool, true, false, ◌||◌, List, [], ◌∷◌}
use Rattle.std.specs.List.{list_all, AllByRecursion}
use Rattle.mama_words.specs.declared.parting.Place.{Place}
use Rattle.mama_words.specs.declared.parting.Place.TheVariants.{Outside}
use Rattle.mama_words.specs.Parting.{is_plain, is_gap, next_place, place_after, is_empty_word}

-- some byte from this place on is a space that parts words
abbrev pub has_gap : Place → List ℕ → Bool
has_gap place [] = false
has_gap place (b ∷ bs) = is_gap place b || has_gap (next_place place b) bs

-- a piece of a word: plain bytes, each quote closed, and no space outside quotes
pub record IsPiece (w : List ℕ) : Type 0 where
  pub plain : list_all is_plain w ≡ true
  pub closed : place_after Outside w ≡ Outside
  pub whole : has_gap Outside w ≡ false

-- a word: a piece that is not empty
pub record IsWord (w : List ℕ) : Type 0 where
  pub piece : IsPiece w
  pub some : is_empty_word w ≡ false

abbrev pub AreWords : List (List ℕ) → Type 0
AreWords ws = AllByRecursion IsWord ws
