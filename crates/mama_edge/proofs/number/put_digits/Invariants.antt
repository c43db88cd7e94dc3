use Rattle.std.proofs.Common.{◌≡◌, ◌+◌, ◌<◌, ◌≤◌, ◌++◌, drop, length}
use Rattle.mama_edge.specs.Decimal.{decimal}
use Rattle.mama_edge.proofs.number.put_digits.Given as goal

abbrev pub invariant-loop-rest : goal.invariant-loop-rest
invariant-loop-rest l =
    (l.start < 21)
    × (length (decimal l.rest) ≤ l.start)
    × (decimal l.rest ++ drop (l.start + 1) l.buffer ≡ decimal l.n)

abbrev pub decreases-loop-rest : goal.decreases-loop-rest
decreases-loop-rest l = l.rest
