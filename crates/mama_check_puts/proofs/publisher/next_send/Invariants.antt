use Rattle.std.proofs.Common.{◌≡◌, drop}
use Rattle.std.specs.List.{flat_map}
use Rattle.mama_rules_rounds.specs.Sections.{sends_in}
use Rattle.mama_check_puts.proofs.publisher.next_send.Given as goal

abbrev pub invariant-loop-i : goal.invariant-loop-i
invariant-loop-i l = flat_map sends_in l.lines ≡ flat_map sends_in (drop l.i l.lines)
