use Rattle.std.proofs.Common.{◌++◌, ◌∷◌, [], ap, sym, ◌∙◌}
use Rattle.mama_rules_services.specs.Ports.{timers_putter}
use Rattle.mama_rules_services.specs.Timers.{heard, put_by, has_ending, clock, now}
use Rattle.mama_timer.specs.Service.{Service}
use Rattle.mama_timer.proofs.Keeping.{kept_late}
use Rattle.mama_timer.proofs.table.Table.now_late.Goals as goal

pub invariant_of-self-2 : goal.invariant_of-self-2
invariant_of-self-2 c =
    let i = c.self.inside in
    let means = ap (λ (s : Service). put_by (timers_putter s.shape c.args.port) c.args.note) c.self.view_is ∙ c.requires.means in
    let ended = ap (λ (s : Service). has_ending s.shape (heard s.shape s.journal)) c.self.view_is ∙ c.requires.ended in
    let clock_is = c.clock_after-clock.ensures ∙ sym (ap (λ (s : Service). clock (heard s.shape s.journal ++ now c.args.moment ∷ [])) c.self.view_is) in
    rw (c.push_reserved.ensures.items, c.in_ok-reserve.ensures.items)
    (kept_late i.shape i.journal.items c.args.port c.args.note c.args.moment c.clock_after-clock.result i.clock i.timers.entries i.dues.keys i.slots i.clients_done i.bridge_done i.queues_done means clock_is c.self.invariant ended)
