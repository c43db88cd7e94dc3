use Rattle.std.proofs.Common.{◌≡◌, ◌≤◌, length, vec_capacity}
use Rattle.mama_pool.specs.Deal.{IsDealing}
use Rattle.mama_pool.proofs.open.open_pool.Given as goal

abbrev pub invariant-loop-number : goal.invariant-loop-number
invariant-loop-number g l = record {
  dealing : IsDealing l.workers l.hands.items;
  count : length l.hands.items ≡ l.number;
  room : l.workers ≤ vec_capacity l.hands;
}
