use Rattle.mama_bridge.specs.Links.{sub_seen}
use Rattle.mama_bridge.proofs.Stepping.{ends_with}
use Rattle.mama_bridge.proofs.subs.end.Goals as goal

pub returns-clause-step : goal.returns-clause-step
returns-clause-step g c =
    ends_with (sub_seen c.args.link) c.held-held.result c.args.msgs.now.items c.finish.new.out.items c.deliver.new.msgs.items c.args.out.now.items c.deliver.new.out.items c.gone.new.out.items
    c.held-held.ensures c.finish.ensures.out c.deliver.ensures.out c.deliver.ensures.msgs c.gone.ensures.out
