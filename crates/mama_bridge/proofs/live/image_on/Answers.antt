use Rattle.mama_laws_bridge.specs.Table.{of_sub, sub_passed}
use Rattle.mama_bridge.specs.Links.{emit_outs, SubsPass}
use Rattle.mama_bridge.proofs.ByTopic.{none_on, none_done}
use Rattle.mama_bridge.proofs.live.image_on.Goals as goal

pub returns-in-None-clause-ok : goal.returns-in-None-clause-ok
returns-in-None-clause-ok g c m same =
    none_on c.args.topics.now c.get_mut.follows.lender-at-none c.args.topic (λ old new. SubsPass {L = g.row.L.Denot} (of_sub c.args.sub) m old new c.args.out.now.items c.args.out.now.items)
    c.in-None.ensures.value c.get_mut.follows.holds-at-none (none_done (of_sub c.args.sub) (sub_passed m) (emit_outs m) c.args.out.now.items)
