use Rattle.std.proofs.Common.{◌≡◌}
use Rattle.mama_tests_calls.proofs.lanes.are_taken.Given as goal

abbrev pub invariant-loop-number : goal.invariant-loop-number
invariant-loop-number g l = l.taker.lane ≡ l.fn.taker.lane
