use Rattle.std.proofs.Common.{◌≡◌, false, take}
use Rattle.mama_payload.specs.Spelling.{has_numbers}
use Rattle.mama_payload.proofs.version.has_numbers.Given as goal

abbrev pub invariant-loop-i : goal.invariant-loop-i
invariant-loop-i l = has_numbers (take l.i l.msg) ≡ false
