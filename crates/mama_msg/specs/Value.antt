-- believed: what the parts of a value may be.
use Rattle.std.specs.Prelude.{ℕ, ◌≤◌, ◌≡◌, Bool, true, ◌&&◌, nat_le, List, length}
use Rattle.std.specs.List.{list_all}

-- a printable ASCII character, a space among them
abbrev pub is_printable : ℕ → Bool
is_printable b = nat_le 32 b && nat_le b 126

-- a text has at most 255 characters, all printable
pub record IsText (bytes : List ℕ) : Type 0 where
  pub short : length bytes ≤ 255
  pub printable : list_all is_printable bytes ≡ true
