use Rattle.std.proofs.Common.{Bool, true, ◌&&◌, not, set, ap, ◌∙◌}
use Rattle.std.specs.List.{list_all}
use Rattle.mama_rules_services.specs.Ports.{timers_putter}
use Rattle.mama_rules_services.specs.Timers.{put_by}
use Rattle.mama_timer.specs.Service.{Service, is_last_bye}
use Rattle.mama_timer.proofs.Words.{kept_bye, queue_length, last_is}
use Rattle.mama_timer.proofs.table.Table.bye.Goals as goal

pub mark-requires : goal.mark-requires
mark-requires c =
    let i = c.self.inside in
    queue_length i.shape i.journal.items c.args.port c.args.note i.clock i.timers.entries i.dues.keys i.slots i.clients_done i.bridge_done i.queues_done c.self.invariant c.args.queue
    (ap (λ (s : Service). put_by (timers_putter s.shape c.args.port) c.args.note) c.self.view_is ∙ c.requires)

pub invariant_of-self-2 : goal.invariant_of-self-2
invariant_of-self-2 c =
    let i = c.self.inside in
    rw (c.push_reserved.ensures.items, c.in_ok-reserve.ensures.items, c.mark.ensures)
    (kept_bye i.shape i.journal.items c.args.port c.args.note i.clock i.timers.entries i.dues.keys i.slots i.clients_done i.bridge_done i.queues_done c.self.invariant c.args.queue
    (ap (λ (s : Service). put_by (timers_putter s.shape c.args.port) c.args.note) c.self.view_is ∙ c.requires))

pub returns-clause-last : goal.returns-clause-last
returns-clause-last c =
    let i = c.self.inside in
    c.newly.ensures
    ∙ ap (λ (b : Bool). b && not c.is_full-had.result) (c.is_full-has.ensures ∙ ap (list_all (λ b. b)) c.mark.ensures)
    ∙ ap (λ (b : Bool). list_all (λ b. b) (set i.queues_done c.args.queue true) && not b) c.is_full-had.ensures
    ∙ last_is i.shape i.journal.items c.args.port c.args.note i.clock i.timers.entries i.dues.keys i.slots i.clients_done i.bridge_done i.queues_done c.self.invariant c.args.queue
    (ap (λ (s : Service). put_by (timers_putter s.shape c.args.port) c.args.note) c.self.view_is ∙ c.requires)
    ∙ ap (λ (s : Service). is_last_bye s (c.args.port, c.args.note)) c.self.view_is
