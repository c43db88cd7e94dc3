-- inner: The lower of the faults that were met.
use Rattle.std.specs.Prelude.{ℕ, min, Option, Some, None}

-- the lower of a fault that was met, if there was one, and another
abbrev pub lower : Option ℕ → ℕ → ℕ
lower None fault = fault
lower (Some other) fault = min other fault
