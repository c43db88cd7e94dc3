use Rattle.mama_dq.proofs.CacheLemmas.{Follows}
use Rattle.mama_dq.proofs.cache.Cache.follow.Given as goal

abbrev pub invariant-loop-next : goal.invariant-loop-next
invariant-loop-next l = Follows l.next-iterator l.self.updates l.at l.number l.image l.initial.image
