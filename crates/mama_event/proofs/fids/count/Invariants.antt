use Rattle.std.proofs.Common.{◌≡◌, ◌++◌, take, drop}
use Rattle.mama_event.specs.Fids.{before_zero}
use Rattle.mama_event.proofs.fids.count.Given as goal

-- none of the numbers so far is 0
abbrev pub invariant-loop-i : goal.invariant-loop-i
invariant-loop-i l = before_zero l.fids ≡ take l.i l.fids ++ before_zero (drop l.i l.fids)
