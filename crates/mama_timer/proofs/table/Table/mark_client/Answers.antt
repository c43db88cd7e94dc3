use Rattle.std.proofs.Common.{ap, ◌∙◌}
use Rattle.mama_rules_services.specs.Ports.{timers_putter}
use Rattle.mama_rules_services.specs.Timers.{put_by}
use Rattle.mama_timer.specs.Service.{Service}
use Rattle.mama_timer.proofs.Words.{kept_client, client_length}
use Rattle.mama_timer.proofs.table.Table.mark_client.Goals as goal

pub mark-requires : goal.mark-requires
mark-requires c =
    let i = c.self.inside in
    client_length i.shape i.journal.items c.args.port c.args.note i.clock i.timers.entries i.dues.keys i.slots i.clients_done i.bridge_done i.queues_done c.self.invariant c.args.client
    (ap (λ (s : Service). put_by (timers_putter s.shape c.args.port) c.args.note) c.self.view_is ∙ c.requires)

pub invariant_of-self-2 : goal.invariant_of-self-2
invariant_of-self-2 c =
    let i = c.self.inside in
    rw (c.push_reserved.ensures.items, c.in_ok-reserve.ensures.items, c.mark.ensures)
    (kept_client i.shape i.journal.items c.args.port c.args.note i.clock i.timers.entries i.dues.keys i.slots i.clients_done i.bridge_done i.queues_done c.self.invariant c.args.client
    (ap (λ (s : Service). put_by (timers_putter s.shape c.args.port) c.args.note) c.self.view_is ∙ c.requires))
