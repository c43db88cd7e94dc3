-- believed: a price as contracts see it.
use Rattle.std.specs.Prelude.{ℕ, ℤ}

-- the mantissa divided by ten to the power of the decimals
pub record PriceData : Type 0 where
  pub mantissa : ℤ
  pub decimals : ℕ
