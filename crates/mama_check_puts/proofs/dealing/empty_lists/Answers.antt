use Rattle.mama_check_puts.proofs.Lists.{one_empty}
use Rattle.mama_check_puts.proofs.dealing.empty_lists.Goals as goal

pub loop-preserved : goal.loop-preserved
loop-preserved g c = one_empty (λ list. list.items) c.loop.lists.items c.push.new.self.items c.loop.counter c.new.result c.loop.invariant c.in_ok-push.ensures.items c.new.ensures.items
