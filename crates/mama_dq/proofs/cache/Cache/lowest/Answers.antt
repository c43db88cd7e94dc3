use Rattle.std.proofs.Common.{◌≡◌, subst}
use Rattle.mama_dq.specs.Cache.{CacheData, above}
use Rattle.mama_dq.proofs.CacheLemmas.{all_above_lowest}
use Rattle.mama_dq.proofs.cache.Cache.lowest.Goals as goal

pub returns-in-Some-clause-above : goal.returns-in-Some-clause-above
returns-in-Some-clause-above c = λ n low.
    subst (λ (k : CacheData). above n k.updates ≡ k.updates) c.self.view_is
    (all_above_lowest n c.in-Some.lowest.now c.self.inside.updates.entries low c.in-Some.ensures.all_from)
