-- believed: the quoted spelling of a text.
use Rattle.std.specs.Prelude.{◌≡◌, ℕ, Bool, true, ◌&&◌, ◌||◌, ◌==◌, nat_le, List, [], ◌∷◌, ◌++◌, if◌then◌else◌}
use Rattle.std.specs.List.{flat_map, list_all}

-- a printable ASCII character, the space among them
abbrev pub is_printable : ℕ → Bool
is_printable byte = nat_le 32 byte && nat_le byte 126

-- each character of a text is printable
abbrev pub IsPrintable : List ℕ → Type 0
IsPrintable text = list_all is_printable text ≡ true

-- a quote or a backslash
abbrev pub is_special : ℕ → Bool
is_special byte = byte == 34 || byte == 92

-- a character as it stands between quotes: a special one behind a backslash
abbrev pub escaped : ℕ → List ℕ
escaped byte = if is_special byte then 92 ∷ byte ∷ [] else byte ∷ []

-- the text between two quotes
abbrev pub quoted : List ℕ → List ℕ
quoted text = 34 ∷ (flat_map escaped text ++ 34 ∷ [])
