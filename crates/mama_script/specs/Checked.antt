-- inner: What the tests of a line against those before it answer.
use Rattle.std.specs.Prelude.{◌≡◌, Option, Some, None, Result, Ok, Err}
use Rattle.mama_script.specs.declared.fault.Flaw.{Flaw}
use Rattle.mama_script.specs.declared.fault.Refused.{Refused}
use Rattle.mama_script.specs.declared.fault.Refused.TheVariants as refused

-- a line is refused for its flaw. Want of memory says nothing.
abbrev pub Refuses : Option Flaw → Refused → Type 0
Refuses flaw refused.Memory = Unit {0}
Refuses flaw (refused.Flawed found) = flaw ≡ Some found

-- a test that finds nothing finds no flaw, and otherwise the one that there is
abbrev pub Checks : {A : Type 0} → Option Flaw → Result A Flaw → Type 0
Checks flaw (Ok done) = flaw ≡ None
Checks flaw (Err found) = flaw ≡ Some found
