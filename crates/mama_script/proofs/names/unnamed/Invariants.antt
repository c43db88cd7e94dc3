use Rattle.std.proofs.Common.{◌≡◌, ◌+◌, drop}
use Rattle.mama_script.specs.Names.{unnamed_from}
use Rattle.mama_script.proofs.names.unnamed.Given as goal

abbrev pub invariant-loop-i : goal.invariant-loop-i
invariant-loop-i l = unnamed_from l.made (l.i + 2) (drop l.i l.lines) ≡ unnamed_from l.made 2 l.lines
