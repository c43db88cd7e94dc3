use Rattle.mama_pool.proofs.Pools.{pool_set}
use Rattle.mama_tests_pool.proofs.hands.push.Goals as goal

pub returns-clause-pool : goal.returns-clause-pool
returns-clause-pool g c = pool_set c.args.hands.now.items c.args.at c.index_mut.result.now c.push.new.self c.requires.pool c.requires.at c.index_mut.ensures.value c.push.ensures.places
