-- believed: Numbers in their one decimal spelling.
use Rattle.std.specs.Prelude.{ℕ, zero, suc, ℤ, pos, negsuc, ◌^◌, ◌==◌, Bool, ◌&&◌, nat_lt, List, drop, slice_index, Option, Some, None, if◌then◌else◌}
use Rattle.std.specs.Str.{bytes_eq}
use Rattle.std.specs.Str.Parse.{digits_value}
use Rattle.mama_edge.specs.Decimal.{decimal}

-- the number that a text spells, below 2 ^ 64
unfoldable pub number_in : List ℕ → Option ℕ
number_in text = let n = digits_value 10 text in if nat_lt n (2 ^ 64) && bytes_eq text (decimal n) then Some n else None

-- the number, if it is below the limit
abbrev pub if_below : ℕ → Option ℕ → Option ℕ
if_below limit None = None
if_below limit (Some n) = if nat_lt n limit then Some n else None

-- the number that a text spells, below a limit
abbrev pub below_in : ℕ → List ℕ → Option ℕ
below_in limit text = if_below limit (number_in text)

-- the number, if it is from low to high
abbrev pub if_between : ℕ → ℕ → Option ℕ → Option ℕ
if_between low high None = None
if_between low high (Some n) = if nat_lt n low then None else (if nat_lt high n then None else Some n)

-- the number that a text spells, from low to high
abbrev pub between_in : ℕ → ℕ → List ℕ → Option ℕ
between_in low high text = if_between low high (number_in text)

-- a signed number from - half to half - 1
abbrev pub is_within : ℕ → ℤ → Bool
is_within half (pos n) = nat_lt n half
is_within half (negsuc n) = nat_lt n half

-- the number itself, and its opposite; zero has none
abbrev pub plain_int : Option ℕ → Option ℤ
plain_int None = None
plain_int (Some n) = Some (pos n)

abbrev pub opposite_int : Option ℕ → Option ℤ
opposite_int None = None
opposite_int (Some zero) = None
opposite_int (Some (suc n)) = Some (negsuc n)

-- the signed number, if it is within
abbrev pub if_within : ℕ → Option ℤ → Option ℤ
if_within half None = None
if_within half (Some z) = if is_within half z then Some z else None

-- the signed number that a text spells: behind a minus sign the opposite of what the rest spells
abbrev pub any_int_in : List ℕ → Option ℤ
any_int_in text = if slice_index text 0 == 45 then opposite_int (number_in (drop 1 text)) else plain_int (number_in text)

-- the signed number that a text spells, from - half to half - 1
unfoldable pub int_in : ℕ → List ℕ → Option ℤ
int_in half text = if_within half (any_int_in text)
