-- believed: the decimal spelling of a number.
use Rattle.std.specs.Prelude.{ℕ, suc, ℤ, pos, negsuc, List, ◌∷◌}
use Rattle.std.specs.Fmt as text

-- the decimal digits of a number below 2 ^ 64, without a leading zero
abbrev pub decimal : ℕ → List ℕ
decimal n = text.decimal n

-- the decimal spelling of a signed number: a minus sign and the digits of its size where it is negative
abbrev pub int_decimal : ℤ → List ℕ
int_decimal (pos n) = decimal n
int_decimal (negsuc n) = 45 ∷ decimal (suc n)
