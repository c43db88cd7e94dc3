use Rattle.std.proofs.Common.{ℕ, ◌<◌, ◌≤◌, length}
use Rattle.mama_pool.specs.Values.{Closed, shares_at}
use Rattle.mama_pool.specs.Deal.{hand_at, IsPart}
use Rattle.mama_pool.proofs.close.close_pool.Given as goal

abbrev pub invariant-loop-hand : goal.invariant-loop-hand
invariant-loop-hand g l = record {
  part : IsPart l.fn.hands.items l.hands.items;
  closed : (i : ℕ) → length l.hands.items ≤ i → i < length l.fn.hands.items → Closed (hand_at l.fn.hands.items i).pushed (shares_at i l.fn.hands.items);
}

abbrev pub decreases-loop-hand : goal.decreases-loop-hand
decreases-loop-hand g l = length l.hands.items
