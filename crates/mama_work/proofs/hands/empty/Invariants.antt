use Rattle.std.proofs.Common.{◌<◌, length, map}
use Rattle.mama_work.specs.Serving.{Follows}
use Rattle.mama_work.proofs.hands.empty.Given as goal

abbrev pub invariant-loop : goal.invariant-loop
invariant-loop g l = record {
  there : l.hand.number < length l.hand.shares;
  follows : Follows l.initial.hand l.hand (map g.D.Numbered.numbered l.initial.taken.items) (map g.D.Numbered.numbered l.taken.items);
}
