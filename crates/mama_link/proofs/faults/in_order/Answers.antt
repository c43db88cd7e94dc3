use Rattle.std.proofs.Common.{rules, ◌≡◌}
use Rattle.mama_link.proofs.faults.in_order.Goals as goal

pub returns-clause-found : goal.returns-clause-found
returns-clause-found c = let all : c.loop-index.table.items ≡ c.args.by_index.now.entries = search rules in rw all c.iter-index-items.ensures.found
