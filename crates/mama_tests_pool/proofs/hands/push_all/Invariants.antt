use Rattle.std.proofs.Common.{◌≡◌, length}
use Rattle.mama_pool.specs.Values.{IsPool}
use Rattle.mama_tests_pool.proofs.hands.push_all.Given as goal

abbrev pub invariant-loop-i : goal.invariant-loop-i
invariant-loop-i g l = record { pool : IsPool l.hands.items; four : length l.hands.items ≡ 4 }
