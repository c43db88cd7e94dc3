use Rattle.std.proofs.Common.{◌≡◌, drop}
use Rattle.mama_seats.specs.Past.{past}
use Rattle.mama_seats.proofs.line.next_at.Given as goal

abbrev pub invariant-loop-place : goal.invariant-loop-place
invariant-loop-place g l = past g.L.Line.empty (drop l.place l.lines) ≡ past g.L.Line.empty (drop l.from l.lines)
