use Rattle.mama_bridge.specs.Links.{inbox_seen}
use Rattle.mama_bridge.proofs.Stepping.{inbox_ends_with}
use Rattle.mama_bridge.proofs.inboxes.end.Goals as goal

pub returns-clause-step : goal.returns-clause-step
returns-clause-step g c =
    inbox_ends_with (inbox_seen c.args.link) c.held-held.result c.args.bodies.now.items c.finish.new.out.items c.reply.new.bodies.items c.args.out.now.items c.reply.new.out.items c.gone.new.out.items
    c.held-held.ensures c.finish.ensures.out c.reply.ensures.out c.reply.ensures.bodies c.gone.ensures.out
