use Rattle.std.proofs.Common.{◌∙◌}
use Rattle.mama_dq.proofs.CacheLemmas.{cache_taken_back}
use Rattle.mama_dq.proofs.cache.Cache.add_applied.Goals as goal

pub returns-in-Err-clause-err : goal.returns-in-Err-clause-err
returns-in-Err-clause-err c =
    c.take_back.ensures ∙ cache_taken_back c.in_ok-fresh.fresh c.args.self.now c.put.new.self c.args.number c.in_ok-try_clone.field-0 c.in_ok-fresh.ensures.fresh c.in_ok-fresh.ensures.put
