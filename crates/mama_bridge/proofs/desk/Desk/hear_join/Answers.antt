use Rattle.mama_bridge.proofs.Brought.{hears_join_of}
use Rattle.mama_bridge.proofs.desk.Desk.hear_join.Goals as goal

pub returns-in-Ok-clause-ok : goal.returns-in-Ok-clause-ok
returns-in-Ok-clause-ok g c =
    hears_join_of g.L.Tagged.tagged c.args.shape.now c.args.client c.args.sub c.args.terms c.args.listener c.args.self.now c.join.new.self c.args.out.now.items c.join.new.out.items c.if-sub-client.false c.in-Ok.ensures.ok
