use Rattle.std.proofs.Common.{ap, ◌∙◌}
use Rattle.std.proofs.lemmas.Bool.{both_ways}
use Rattle.mama_rules_services.specs.Ports.{timers_putter}
use Rattle.mama_rules_services.specs.Timers.{heard, put_by, has_ending, is_armed}
use Rattle.mama_timer.specs.Service.{Service}
use Rattle.mama_timer.proofs.Keeping.{kept_disarmed}
use Rattle.mama_timer.proofs.table.Table.disarm_late.Goals as goal

pub invariant_of-self-2 : goal.invariant_of-self-2
invariant_of-self-2 c =
    let i = c.self.inside in
    let means = ap (λ (s : Service). put_by (timers_putter s.shape c.args.port) c.args.note) c.self.view_is ∙ c.requires.means in
    let armed = ap (λ (s : Service). is_armed c.args.timer (heard s.shape s.journal)) c.self.view_is ∙ c.requires.armed in
    let ended = ap (λ (s : Service). has_ending s.shape (heard s.shape s.journal)) c.self.view_is ∙ c.requires.ended in
    rw (c.push_reserved.ensures.items, c.in_ok-reserve.ensures.items)
    (kept_disarmed i.shape i.journal.items c.args.port c.args.note c.args.timer i.clock i.timers.entries i.dues.keys i.slots i.clients_done i.bridge_done i.queues_done means armed c.self.invariant
    c.lay_down.new.timers.entries c.unlist.new.dues.keys i.slots c.lay_down.ensures c.unlist.ensures 0 0
    (λ yet. absurd (both_ways (has_ending i.shape (heard i.shape i.journal.items)) yet ended))
    (λ yet. absurd (both_ways (has_ending i.shape (heard i.shape i.journal.items)) yet ended)))
