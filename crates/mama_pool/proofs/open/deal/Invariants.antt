use Rattle.std.proofs.Common.{◌≡◌, vec_capacity}
use Rattle.mama_pool.specs.Deal.{IsDealt}
use Rattle.mama_pool.proofs.open.deal.Given as goal

abbrev pub invariant-loop-i : goal.invariant-loop-i
invariant-loop-i g l = record {
  dealt : IsDealt l.i l.fn.hands.items l.hands.items l.fn.hand l.hand;
  room : vec_capacity l.hands ≡ vec_capacity l.fn.hands;
}
