use Rattle.mama_bridge.proofs.InOrder.{held_less}
use Rattle.mama_bridge.proofs.live.next_on.Goals as goal

pub returns-in-Some-clause-held : goal.returns-in-Some-clause-held
returns-in-Some-clause-held c =
    held_less c.args.topics.now (c.get_mut.follows.lender c.take_first.new.self) c.args.topic c.in-Some.links.now c.take_first.new.self c.take_first.result c.in-Some.ensures.value (c.get_mut.follows.holds c.take_first.new.self).0 c.take_first.ensures.links
