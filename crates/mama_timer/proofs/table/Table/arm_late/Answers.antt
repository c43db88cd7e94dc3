use Rattle.std.proofs.Common.{true, refl, ap, sym, ◌∙◌}
use Rattle.std.specs.List.{list_any}
use Rattle.std.proofs.lemmas.Bool.{both_ways}
use Rattle.mama_rules_services.specs.Ports.{timers_putter}
use Rattle.mama_rules_services.specs.Timers.{heard, put_by, arms_timer, has_ending, timers_puts_at}
use Rattle.mama_timer.specs.declared.table.Row.{Row}
use Rattle.mama_timer.specs.Service.{Service}
use Rattle.mama_timer.proofs.Keeping.{kept_armed, puts_armed, slot_late}
use Rattle.mama_timer.proofs.table.Table.arm_late.Goals as goal

pub invariant_of-self-2 : goal.invariant_of-self-2
invariant_of-self-2 c =
    let i = c.self.inside in
    let r : Row = record { queue = c.args.arming.queue; slot = 0; interval = c.args.arming.interval; due = 0; armed = true } in
    let means = ap (λ (s : Service). put_by (timers_putter s.shape c.args.port) c.args.note) c.self.view_is ∙ c.requires.means in
    let new = ap (λ (s : Service). list_any (arms_timer c.args.arming.timer) (heard s.shape s.journal)) c.self.view_is ∙ c.requires.new in
    let ended = ap (λ (s : Service). has_ending s.shape (heard s.shape s.journal)) c.self.view_is ∙ c.requires.ended in
    rw (c.push_reserved.ensures.items, c.in_ok-reserve.ensures.items)
    (kept_armed i.shape i.journal.items c.args.port c.args.note c.args.arming.timer r c.args.arming.tag i.clock i.timers.entries c.insert.new.self.entries i.dues.keys i.dues.keys i.slots i.slots
    i.clients_done i.bridge_done i.queues_done means new c.self.invariant
    (slot_late i.shape i.journal.items c.args.port c.args.note c.args.arming.timer r c.args.arming.tag i.clock i.timers.entries i.timers.entries i.dues.keys i.dues.keys i.slots i.slots
    i.clients_done i.bridge_done i.queues_done means new c.self.invariant ended refl)
    refl (λ yet. absurd (both_ways (has_ending i.shape (heard i.shape i.journal.items)) yet ended)) c.in_ok-insert.ensures.updates.0
    (λ yet. absurd (both_ways (has_ending i.shape (heard i.shape i.journal.items)) yet ended))
    (λ yet. absurd (both_ways (has_ending i.shape (heard i.shape i.journal.items)) yet ended))
    (λ yet. absurd (both_ways (has_ending i.shape (heard i.shape i.journal.items)) yet ended)))

pub returns-clause-puts : goal.returns-clause-puts
returns-clause-puts c =
    let i = c.self.inside in
    let r : Row = record { queue = c.args.arming.queue; slot = 0; interval = c.args.arming.interval; due = 0; armed = true } in
    let means = ap (λ (s : Service). put_by (timers_putter s.shape c.args.port) c.args.note) c.self.view_is ∙ c.requires.means in
    let new = ap (λ (s : Service). list_any (arms_timer c.args.arming.timer) (heard s.shape s.journal)) c.self.view_is ∙ c.requires.new in
    let ended = ap (λ (s : Service). has_ending s.shape (heard s.shape s.journal)) c.self.view_is ∙ c.requires.ended in
    sym (ap (λ (s : Service). timers_puts_at s.shape s.journal (c.args.port, c.args.note)) c.self.view_is)
    ∙ puts_armed i.shape i.journal.items c.args.port c.args.note c.args.arming.timer r c.args.arming.tag i.clock i.timers.entries i.timers.entries i.dues.keys i.dues.keys i.slots i.slots
    i.clients_done i.bridge_done i.queues_done means new c.self.invariant
    (slot_late i.shape i.journal.items c.args.port c.args.note c.args.arming.timer r c.args.arming.tag i.clock i.timers.entries i.timers.entries i.dues.keys i.dues.keys i.slots i.slots
    i.clients_done i.bridge_done i.queues_done means new c.self.invariant ended refl)
