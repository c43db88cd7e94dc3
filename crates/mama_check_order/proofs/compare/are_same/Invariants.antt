use Rattle.std.proofs.Common.{◌≡◌, take}
use Rattle.mama_check_order.proofs.compare.are_same.Given as goal

-- both begin alike
abbrev pub invariant-loop-i : goal.invariant-loop-i
invariant-loop-i g l = take l.i l.a ≡ take l.i l.b
