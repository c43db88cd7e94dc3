use Rattle.std.proofs.Common.{◌≡◌, ℕ, ◌<◌, length, map}
use Rattle.mama_pool.specs.Values.{KnowsEmpty}
use Rattle.mama_pool.specs.Deal.{hand_at}
use Rattle.mama_work.specs.Serving.{AllFollow}
use Rattle.mama_work.proofs.hands.empty_all.Given as goal

abbrev pub invariant-loop-i : goal.invariant-loop-i
invariant-loop-i g l = record {
  count : length l.hands.items ≡ length l.initial.hands.items;
  follows : AllFollow l.initial.hands.items l.hands.items (map g.D.Numbered.numbered l.initial.taken.items) (map g.D.Numbered.numbered l.taken.items);
  empty : (j : ℕ) → j < l.i → KnowsEmpty (hand_at l.hands.items j);
}
