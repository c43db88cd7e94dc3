-- What tests of two numbers tell.
use Rattle.std.proofs.Common.{◌≡◌, ◌≢◌, ℕ, ◌<◌, ◌≤◌, true, false, nat_lt, nat_le, ◌==◌, arith, Less, Equal, Greater}
use Rattle.std.proofs.lemmas.Bool.Decides.{nat_tests}
use Rattle.std.specs.Ordering.{nat_cmp}

pub eq_true : (a b : ℕ) → (a == b) ≡ true → a ≡ b
eq_true a b is = grind (arith, nat_tests)

pub eq_false : (a b : ℕ) → (a == b) ≡ false → a ≢ b
eq_false a b is = λ same. grind (arith, nat_tests)

pub eq_same : (a b : ℕ) → a ≡ b → (a == b) ≡ true
eq_same a b is = grind (arith, nat_tests)

pub lt_true : (a b : ℕ) → nat_lt a b ≡ true → a < b
lt_true a b is = grind (arith, nat_tests)

pub lt_false : (a b : ℕ) → nat_lt a b ≡ false → b ≤ a
lt_false a b is = grind (arith, nat_tests)

pub le_true : (a b : ℕ) → nat_le a b ≡ true → a ≤ b
le_true a b is = grind (arith, nat_tests)

pub less_is : (a b : ℕ) → nat_cmp a b ≡ Less → a < b
less_is a b is = grind (arith, nat_tests)

pub equal_is : (a b : ℕ) → nat_cmp a b ≡ Equal → a ≡ b
equal_is a b is = grind (arith, nat_tests)

pub greater_is : (a b : ℕ) → nat_cmp a b ≡ Greater → b < a
greater_is a b is = grind (arith, nat_tests)
