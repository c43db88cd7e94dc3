use Rattle.std.proofs.Common.{◌≡◌, length}
use Rattle.mama_words.specs.Value.{onto, hex_in}
use Rattle.mama_words.proofs.value.read_hex.Given as goal

abbrev pub invariant-loop-rest : goal.invariant-loop-rest
invariant-loop-rest l = onto l.bytes.items (hex_in l.rest) ≡ hex_in l.text

abbrev pub decreases-loop-rest : goal.decreases-loop-rest
decreases-loop-rest l = length l.rest
