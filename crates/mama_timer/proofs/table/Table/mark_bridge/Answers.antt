use Rattle.std.proofs.Common.{ap, ◌∙◌}
use Rattle.mama_rules_services.specs.Ports.{timers_putter}
use Rattle.mama_rules_services.specs.Timers.{put_by}
use Rattle.mama_timer.specs.Service.{Service}
use Rattle.mama_timer.proofs.Words.{kept_bridge}
use Rattle.mama_timer.proofs.table.Table.mark_bridge.Goals as goal

pub invariant_of-self-2 : goal.invariant_of-self-2
invariant_of-self-2 c =
    let i = c.self.inside in
    rw (c.push_reserved.ensures.items, c.in_ok-reserve.ensures.items)
    (kept_bridge i.shape i.journal.items c.args.port c.args.note i.clock i.timers.entries i.dues.keys i.slots i.clients_done i.bridge_done i.queues_done c.self.invariant
    (ap (λ (s : Service). put_by (timers_putter s.shape c.args.port) c.args.note) c.self.view_is ∙ c.requires))
