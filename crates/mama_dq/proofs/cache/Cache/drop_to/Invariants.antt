use Rattle.std.proofs.Common.{◌≡◌, length}
use Rattle.mama_dq.specs.Cache.{above}
use Rattle.mama_dq.proofs.cache.Cache.drop_to.Given as goal

abbrev pub invariant-loop-lowest : goal.invariant-loop-lowest
invariant-loop-lowest l = record {
  same : above l.number l.self.updates ≡ above l.number l.initial.self.updates;
  size : l.self.size ≡ l.initial.self.size;
}

abbrev pub decreases-loop-lowest : goal.decreases-loop-lowest
decreases-loop-lowest l = length l.self.updates
