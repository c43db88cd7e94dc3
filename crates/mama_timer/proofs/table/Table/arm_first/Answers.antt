use Rattle.std.proofs.Common.{◌++◌, ◌∷◌, [], List, true, refl, ap, sym, ◌∙◌}
use Rattle.std.specs.List.{list_any}
use Rattle.mama_rules_services.specs.Ports.{timers_putter}
use Rattle.mama_rules_services.specs.Timers.{heard, put_by, arms_timer, has_ending, timers_puts_at}
use Rattle.mama_timer.specs.declared.table.Row.{Row}
use Rattle.mama_timer.specs.Service.{Service}
use Rattle.mama_timer.proofs.Keeping.{kept_armed, kept_slots, puts_armed, slot_yet, clock_fits, listed_with, taken_view}
use Rattle.mama_timer.proofs.table.Table.arm_first.Goals as goal

pub due_after-due-requires : goal.due_after-due-requires
due_after-due-requires c = let i = c.self.inside in clock_fits i.shape i.journal.items i.clock i.timers.entries i.dues.keys i.slots i.clients_done i.bridge_done i.queues_done c.self.invariant

pub invariant_of-self-in_err-insert-2 : goal.invariant_of-self-in_err-insert-2
invariant_of-self-in_err-insert-2 c =
    let i = c.self.inside in
    rw (c.in_ok-reserve.ensures.items, c.in_err-insert-2.ensures.err)
    (kept_slots i.shape i.journal.items i.clock i.timers.entries i.dues.keys c.insert.new.self.keys i.slots c.next.new.self i.clients_done i.bridge_done i.queues_done
    (λ key h. listed_with _ _ _ key (c.in_ok-insert.ensures.updates.0 key) h) c.in_ok-slot.ensures.same c.self.invariant)

pub returns-clause-ok : goal.returns-clause-ok
returns-clause-ok c =
    taken_view c.self.inside.shape c.self.inside.journal.items _ (c.args.port, c.args.note) _ _ (c.push_reserved.ensures.items ∙ ap (λ (xs : List _). xs ++ (c.args.port, c.args.note) ∷ []) c.in_ok-reserve.ensures.items) c.self.view_is refl refl _ refl refl

pub invariant_of-self-2 : goal.invariant_of-self-2
invariant_of-self-2 c =
    let i = c.self.inside in
    let r : Row = record { queue = c.args.arming.queue; slot = c.in_ok-slot.slot; interval = c.args.arming.interval; due = c.due_after-due.result; armed = true } in
    let means = ap (λ (s : Service). put_by (timers_putter s.shape c.args.port) c.args.note) c.self.view_is ∙ c.requires.means in
    let new = ap (λ (s : Service). list_any (arms_timer c.args.arming.timer) (heard s.shape s.journal)) c.self.view_is ∙ c.requires.new in
    let yet = ap (λ (s : Service). has_ending s.shape (heard s.shape s.journal)) c.self.view_is ∙ c.requires.yet in
    let kept = kept_slots i.shape i.journal.items i.clock i.timers.entries i.dues.keys i.dues.keys i.slots c.next.new.self i.clients_done i.bridge_done i.queues_done
    (λ key h. h) c.in_ok-slot.ensures.same c.self.invariant in
    let slot_is = slot_yet i.shape i.journal.items c.args.port c.args.note c.args.arming.timer r c.args.arming.tag i.clock i.timers.entries i.timers.entries i.dues.keys i.dues.keys c.next.new.self c.next.new.self
    i.clients_done i.bridge_done i.queues_done means new kept yet c.in_ok-slot.ensures.next.free c.in_ok-slot.ensures.next.least in
    rw (c.push_reserved.ensures.items, c.in_ok-reserve.ensures.items)
    (kept_armed i.shape i.journal.items c.args.port c.args.note c.args.arming.timer r c.args.arming.tag i.clock i.timers.entries c.insert-2.new.self.entries i.dues.keys c.insert.new.self.keys c.next.new.self c.hold.new.self
    i.clients_done i.bridge_done i.queues_done means new kept slot_is
    refl (λ h. c.due_after-due.ensures) c.in_ok-insert-2.ensures.updates.0 (λ h. c.in_ok-insert.ensures.updates.1)
    (λ h key k. listed_with _ _ _ key (c.in_ok-insert.ensures.updates.0 key) k) (λ h. c.hold.ensures))

pub returns-clause-puts : goal.returns-clause-puts
returns-clause-puts c =
    let i = c.self.inside in
    let r : Row = record { queue = c.args.arming.queue; slot = c.in_ok-slot.slot; interval = c.args.arming.interval; due = c.due_after-due.result; armed = true } in
    let means = ap (λ (s : Service). put_by (timers_putter s.shape c.args.port) c.args.note) c.self.view_is ∙ c.requires.means in
    let new = ap (λ (s : Service). list_any (arms_timer c.args.arming.timer) (heard s.shape s.journal)) c.self.view_is ∙ c.requires.new in
    let yet = ap (λ (s : Service). has_ending s.shape (heard s.shape s.journal)) c.self.view_is ∙ c.requires.yet in
    let kept = kept_slots i.shape i.journal.items i.clock i.timers.entries i.dues.keys i.dues.keys i.slots c.next.new.self i.clients_done i.bridge_done i.queues_done
    (λ key h. h) c.in_ok-slot.ensures.same c.self.invariant in
    let slot_is = slot_yet i.shape i.journal.items c.args.port c.args.note c.args.arming.timer r c.args.arming.tag i.clock i.timers.entries i.timers.entries i.dues.keys i.dues.keys c.next.new.self c.next.new.self
    i.clients_done i.bridge_done i.queues_done means new kept yet c.in_ok-slot.ensures.next.free c.in_ok-slot.ensures.next.least in
    sym (ap (λ (s : Service). timers_puts_at s.shape s.journal (c.args.port, c.args.note)) c.self.view_is)
    ∙ puts_armed i.shape i.journal.items c.args.port c.args.note c.args.arming.timer r c.args.arming.tag i.clock i.timers.entries i.timers.entries i.dues.keys i.dues.keys c.next.new.self c.next.new.self
    i.clients_done i.bridge_done i.queues_done means new kept slot_is
