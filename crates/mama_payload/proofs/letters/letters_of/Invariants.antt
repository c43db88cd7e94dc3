use Rattle.std.proofs.Common.{◌≡◌, true, take}
use Rattle.std.specs.List.{list_all}
use Rattle.mama_payload.specs.Reading.{allowed}
use Rattle.mama_payload.proofs.letters.letters_of.Given as goal

-- the letters so far are allowed
abbrev pub invariant-loop-i : goal.invariant-loop-i
invariant-loop-i l = list_all (allowed l.alphabet) (take l.i l.bytes) ≡ true
