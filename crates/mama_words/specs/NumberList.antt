-- believed: Lists of numbers, and how they are spelled: between brackets, with one comma between two.
use Rattle.std.specs.Prelude.{◌≡◌, ℕ, ℤ, ◌^◌, ◌≤◌, ◌==◌, true, nat_lt, nat_le, List, [], ◌∷◌, ◌++◌, length, Option, Some, None, option_and_then, if◌then◌else◌}
use Rattle.std.specs.List.{flat_map, list_all}
use Rattle.mama_edge.specs.Decimal.{int_decimal}
use Rattle.mama_words.specs.Parting.{pieces, cut_at}
use Rattle.mama_words.specs.Number.{int_in, is_within}

-- a number behind a comma
abbrev pub after_comma : ℤ → List ℕ
after_comma z = 44 ∷ int_decimal z

-- numbers with one comma between two
abbrev pub with_commas : List ℤ → List ℕ
with_commas [] = []
with_commas (z ∷ zs) = int_decimal z ++ flat_map after_comma zs

-- the spelling of a list of numbers
abbrev pub numbers_text : List ℤ → List ℕ
numbers_text zs = 91 ∷ (with_commas zs ++ 93 ∷ [])

-- what stands before a byte that is the last
abbrev pub if_last : List ℕ × List ℕ → Option (List ℕ)
if_last cut = if length cut.1 == 0 then Some cut.0 else None

-- what stands between brackets, where the whole text does so
abbrev pub bracketed_in : List ℕ → Option (List ℕ)
bracketed_in [] = None
bracketed_in (b ∷ bs) = if nat_lt b 91 then None else (if nat_lt 91 b then None else option_and_then if_last (cut_at 93 bs))

abbrev pub before : ℤ → Option (List ℤ) → Option (List ℤ)
before z None = None
before z (Some zs) = Some (z ∷ zs)

-- the numbers that the pieces spell, each of 64 bits
abbrev pub ints_in : List (List ℕ) → Option (List ℤ)
ints_in [] = Some []
ints_in (w ∷ ws) = option_and_then (λ z. before z (ints_in ws)) (int_in (2 ^ 63) w)

-- the numbers that a text spells, none where it is empty
abbrev pub list_in : List ℕ → Option (List ℤ)
list_in text = if length text == 0 then Some [] else ints_in (pieces 44 text)

-- the numbers, if they are at most 24
abbrev pub if_few : Option (List ℤ) → Option (List ℤ)
if_few None = None
if_few (Some zs) = if nat_le (length zs) 24 then Some zs else None

-- the list of numbers that a word spells
unfoldable pub numbers_in : List ℕ → Option (List ℤ)
numbers_in word = if_few (option_and_then list_in (bracketed_in word))

-- at most 24 numbers of 64 bits
pub record AreNumbers (zs : List ℤ) : Type 0 where
  pub few : length zs ≤ 24
  pub within : list_all (is_within (2 ^ 63)) zs ≡ true
