use Rattle.mama_bridge.proofs.Brought.{hears_opening_of}
use Rattle.mama_bridge.proofs.desk.Desk.hear_opening.Goals as goal

pub returns-in-Ok-clause-ok : goal.returns-in-Ok-clause-ok
returns-in-Ok-clause-ok g c =
    hears_opening_of g.L.Tagged.tagged c.args.shape.now c.args.client c.args.inbox c.args.terms c.args.listener c.args.self.now c.open_inbox.new.self c.args.out.now.items c.open_inbox.new.out.items c.if-inbox-client.false (c.in-Ok.ensures.ok c.args.shape.now)
