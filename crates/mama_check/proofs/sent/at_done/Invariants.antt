use Rattle.std.proofs.Common.{◌≡◌, false, take}
use Rattle.std.specs.List.{list_any}
use Rattle.mama_rules_legal.specs.Lines.{is_done}
use Rattle.mama_check.proofs.sent.at_done.Given as goal

-- no Done so far
abbrev pub invariant-loop-i : goal.invariant-loop-i
invariant-loop-i l = list_any is_done (take l.i l.journal) ≡ false
