use Rattle.std.proofs.Common.{None}
use Rattle.mama_bridge.proofs.LinkLemmas.{noted_else}
use Rattle.mama_bridge.proofs.numbers.forget.Goals as goal

pub compact-requires : goal.compact-requires
compact-requires c = noted_else c.args.indexes.now c.remove.new.self c.args.entries.now.items c.args.sub None c.remove.ensures.updates.0 c.requires.absent c.requires.indexed

pub returns-else-len-clause-indexed : goal.returns-else-len-clause-indexed
returns-else-len-clause-indexed c = noted_else c.args.indexes.now c.remove.new.self c.args.entries.now.items c.args.sub None c.remove.ensures.updates.0 c.requires.absent c.requires.indexed
