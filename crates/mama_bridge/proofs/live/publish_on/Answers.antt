use Rattle.mama_laws_bridge.specs.Table.{sub_passed}
use Rattle.mama_bridge.specs.Links.{emit_outs, row_is_on, SubsPass}
use Rattle.mama_bridge.proofs.ByTopic.{none_on, none_done}
use Rattle.mama_bridge.proofs.live.publish_on.Goals as goal

pub returns-in-None-clause-ok : goal.returns-in-None-clause-ok
returns-in-None-clause-ok g c m same =
    none_on c.args.topics.now c.get_mut.follows.lender-at-none c.args.topic (λ old new. SubsPass {L = g.row.L.Denot} (row_is_on c.args.topic) m old new c.args.out.now.items c.args.out.now.items)
    c.in-None.ensures.value c.get_mut.follows.holds-at-none (none_done (row_is_on c.args.topic) (sub_passed m) (emit_outs m) c.args.out.now.items)
