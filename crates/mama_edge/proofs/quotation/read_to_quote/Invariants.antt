use Rattle.std.proofs.Common.{◌≡◌, false, drop}
use Rattle.mama_edge.specs.Unquoting.{unquoted, put_front}
use Rattle.mama_edge.proofs.quotation.read_to_quote.Given as goal

abbrev pub invariant-loop-place : goal.invariant-loop-place
invariant-loop-place l = put_front l.text.items (unquoted l.is_escaped (drop l.place l.bytes)) ≡ unquoted false l.bytes
