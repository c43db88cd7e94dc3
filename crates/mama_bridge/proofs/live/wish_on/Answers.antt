use Rattle.mama_laws_bridge.specs.Table.{of_sub}
use Rattle.mama_bridge.specs.Links.{wish_outs, wished_once, SubWishes}
use Rattle.mama_bridge.proofs.ByTopic.{none_on, none_done}
use Rattle.mama_bridge.proofs.live.wish_on.Goals as goal

pub returns-in-None-clause-ok : goal.returns-in-None-clause-ok
returns-in-None-clause-ok g c =
    none_on c.args.topics.now c.get_mut.follows.lender-at-none c.args.topic (λ old new. SubWishes {L = g.row.L.Denot} c.args.sender c.args.sub old new c.args.out.now.items c.args.out.now.items)
    c.in-None.ensures.value c.get_mut.follows.holds-at-none (none_done (of_sub c.args.sub) wished_once (wish_outs c.args.sender) c.args.out.now.items)
