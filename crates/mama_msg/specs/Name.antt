-- believed: the name of a field, as contracts see it.
use Rattle.std.specs.Prelude.{◌≡◌, ℕ, ◌≤◌, Bool, true, ◌||◌, ◌==◌, List, length}
use Rattle.std.specs.Char.{is_ascii_alphanumeric}
use Rattle.std.specs.List.{list_all}

-- a byte of a name is a letter, a digit or an underscore
abbrev pub is_name_byte : ℕ → Bool
is_name_byte b = is_ascii_alphanumeric b || b == 95

-- the text of a name has at most 32 bytes, each a letter, a digit or an underscore
pub record IsNameText (text : List ℕ) : Type 0 where
  pub short : length text ≤ 32
  pub letters : list_all is_name_byte text ≡ true
