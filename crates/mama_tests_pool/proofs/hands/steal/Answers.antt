use Rattle.std.proofs.Common.{◌∙◌, arith}
use Rattle.mama_pool.proofs.Pools.{pool_set, pool_hand}
use Rattle.mama_tests_pool.proofs.hands.steal.Goals as goal

pub steal-requires : goal.steal-requires
steal-requires g c = let p = pool_hand c.args.hands.now.items c.args.at c.index_mut.result.now c.requires.pool c.requires.at c.index_mut.ensures.value in let a = p.0 in let b = p.1 in let f = c.requires.from.0 in let m = c.requires.from.1 in ((λ e. f (e ∙ a)), omega arith)

pub returns-clause-pool : goal.returns-clause-pool
returns-clause-pool g c = pool_set c.args.hands.now.items c.args.at c.index_mut.result.now c.steal.new.self c.requires.pool c.requires.at c.index_mut.ensures.value c.steal.ensures.places
