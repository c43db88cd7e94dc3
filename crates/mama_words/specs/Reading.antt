-- believed: How a text is read: what reading gives is the value, or the number of the fault.
use Rattle.std.specs.Prelude.{ℕ, min, Option, Some, None, Result, Ok, Err}

-- first the one, then the other; the fault of the one if it has one
infixl 10 ◌>>=◌
abbrev pub ◌>>=◌ : {A B : Type 0} → Result A ℕ → (A → Result B ℕ) → Result B ℕ
(Ok x) >>= f = f x
(Err n) >>= f = Err n

-- the value, or this fault where there is none
abbrev pub or_fault : {A : Type 0} → ℕ → Option A → Result A ℕ
or_fault n None = Err n
or_fault n (Some x) = Ok x

-- two parts that are looked at together: the lower of their faults
abbrev pub both : {A B : Type 0} → Result A ℕ → Result B ℕ → Result (A × B) ℕ
both (Ok x) (Ok y) = Ok (x, y)
both (Ok x) (Err n) = Err n
both (Err m) (Ok y) = Err m
both (Err m) (Err n) = Err (min m n)
