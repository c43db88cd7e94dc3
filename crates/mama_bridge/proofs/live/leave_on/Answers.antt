use Rattle.std.proofs.lemmas.Result.{on_ok_weaker}
use Rattle.mama_bridge.specs.Links.{SubLeaves}
use Rattle.mama_bridge.proofs.ByTopic.{none_on, none_left}
use Rattle.mama_bridge.proofs.live.leave_on.Goals as goal

pub returns-in-None-clause-ok : goal.returns-in-None-clause-ok
returns-in-None-clause-ok g c =
    on_ok_weaker c.release.result
    (λ freed. none_on c.args.topics.now c.get_mut.follows.lender-at-none c.args.place.topic (λ old new. SubLeaves {L = g.row.L.Denot} c.args.sub old new c.args.out.now.items c.args.out.now.items)
    c.in-None.ensures.value c.get_mut.follows.holds-at-none (none_left c.args.sub c.args.out.now.items))
    c.release.ensures.ok
