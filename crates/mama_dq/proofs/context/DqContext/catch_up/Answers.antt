use Rattle.std.proofs.Common.{◌∙◌, ap}
use Rattle.mama_dq.specs.Cache.{CacheData}
use Rattle.mama_dq.specs.Context.{ContextData}
use Rattle.mama_dq.proofs.CacheLemmas.{cache_taken_back}
use Rattle.mama_dq.proofs.context.DqContext.catch_up.Goals as goal

-- the context with another cache
abbrev with_cache : ContextData → CacheData → ContextData
with_cache c cache = record c { cache = cache }

pub returns-in-Err-clause-err : goal.returns-in-Err-clause-err
returns-in-Err-clause-err c =
    let inside : ContextData = record {
      strategy = c.self.inside.strategy;
      kind = c.self.inside.kind;
      phase = c.self.inside.phase;
      sender = c.self.inside.sender;
      last = c.self.inside.last;
      image = c.self.inside.image;
      cache = c.self.inside.cache;
    } in
    ap (with_cache inside)
    (c.take_back.ensures
    ∙ cache_taken_back c.in_ok-fresh.fresh c.self.inside.cache c.put.new.self c.args.msg.now.seq c.in_ok-try_clone.field-0 c.in_ok-fresh.ensures.fresh c.in_ok-fresh.ensures.put)
    ∙ c.self.view_is
