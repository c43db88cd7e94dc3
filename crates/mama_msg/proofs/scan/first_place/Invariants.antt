-- No field so far has the key.
use Rattle.std.specs.Prelude.{◌≡◌, false, take}
use Rattle.mama_msg.specs.Message.{has_key}
use Rattle.mama_msg.proofs.scan.first_place.Given as goal

abbrev pub invariant-loop-i : goal.invariant-loop-i
invariant-loop-i l = has_key l.key (take l.i l.fields) ≡ false
