use Rattle.std.proofs.Common.{ap, ◌∙◌}
use Rattle.mama_rules_services.specs.Ports.{timers_putter}
use Rattle.mama_rules_services.specs.Timers.{heard, put_by, is_armed, place_of, timers_puts}
use Rattle.mama_timer.specs.Service.{Service}
use Rattle.mama_timer.proofs.Keeping.{kept_disarmed}
use Rattle.mama_timer.proofs.table.Table.disarm_live.Goals as goal

pub invariant_of-self-2 : goal.invariant_of-self-2
invariant_of-self-2 c =
    let i = c.self.inside in
    let means = ap (λ (s : Service). put_by (timers_putter s.shape c.args.port) c.args.note) c.self.view_is ∙ c.requires.means in
    let armed = ap (λ (s : Service). is_armed c.args.leaving.timer (heard s.shape s.journal)) c.self.view_is ∙ c.requires.armed in
    let place = ap (λ (s : Service). place_of c.args.leaving.timer (timers_puts s.shape s.journal)) c.self.view_is ∙ c.requires.place in
    rw (c.push_reserved.ensures.items, c.in_ok-reserve.ensures.items)
    (kept_disarmed i.shape i.journal.items c.args.port c.args.note c.args.leaving.timer i.clock i.timers.entries i.dues.keys i.slots i.clients_done i.bridge_done i.queues_done means armed c.self.invariant
    c.lay_down.new.timers.entries c.unlist.new.dues.keys c.release.new.self c.lay_down.ensures c.unlist.ensures c.args.leaving.queue c.args.leaving.slot
    (λ yet. place) (λ yet. c.in_ok-release.ensures.ok))
