use Rattle.std.proofs.Common.{◌++◌, ◌∷◌, [], List, map, ap, sym, ◌∙◌}
use Rattle.mama_rules_services.specs.Ports.{timers_putter}
use Rattle.mama_rules_services.specs.Timers.{heard, put_by, has_ending, clock, timers_puts_at, now}
use Rattle.mama_timer.specs.Service.{Service}
use Rattle.mama_timer.specs.Putting.{tick_out}
use Rattle.mama_timer.proofs.Pushes.{clock-small}
use Rattle.mama_timer.proofs.Keeping.{kept_ticked, puts_ticked}
use Rattle.mama_timer.proofs.Words.{notes_ticked, listeners_ticked}
use Rattle.mama_timer.proofs.table.Table.now_yet.Goals as goal

pub firings-requires : goal.firings-requires
firings-requires g c = rw c.clock_after-clock.ensures (clock-small (heard c.args.self.now.shape c.args.self.now.journal ++ now c.args.moment ∷ []))

pub invariant_of-self-2 : goal.invariant_of-self-2
invariant_of-self-2 g c =
    let i = c.self.inside in
    let means = ap (λ (s : Service). put_by (timers_putter s.shape c.args.port) c.args.note) c.self.view_is ∙ c.requires.means in
    let yet = ap (λ (s : Service). has_ending s.shape (heard s.shape s.journal)) c.self.view_is ∙ c.requires.yet in
    let clock_is = c.clock_after-clock.ensures ∙ sym (ap (λ (s : Service). clock (heard s.shape s.journal ++ now c.args.moment ∷ [])) c.self.view_is) in
    rw (c.push_reserved.ensures.items, c.in_ok-reserve.ensures.items)
    (kept_ticked i.shape i.journal.items c.args.port c.args.note c.args.moment c.clock_after-clock.result i.clock i.timers.entries i.dues.keys i.slots i.clients_done i.bridge_done i.queues_done means clock_is c.self.invariant
    yet c.in_ok-first_dues.ensures.ordered c.as_slice-keys.result.now c.as_slice-firings.result.now
    (c.as_slice-keys.ensures.value ∙ c.in_ok-first_dues.ensures.keys) (c.as_slice-firings.ensures.value ∙ c.in_ok-found.ensures)
    c.set_next.new.timers.entries c.strike.new.dues.keys c.list_next.new.dues.keys c.set_next.ensures c.in_ok-list_next.ensures.listed c.strike.ensures)

pub returns-clause-puts : goal.returns-clause-puts
returns-clause-puts g c =
    let i = c.self.inside in
    let means = ap (λ (s : Service). put_by (timers_putter s.shape c.args.port) c.args.note) c.self.view_is ∙ c.requires.means in
    let yet = ap (λ (s : Service). has_ending s.shape (heard s.shape s.journal)) c.self.view_is ∙ c.requires.yet in
    let clock_is = c.clock_after-clock.ensures ∙ sym (ap (λ (s : Service). clock (heard s.shape s.journal ++ now c.args.moment ∷ [])) c.self.view_is) in
    notes_ticked g.L.Tagged.tagged c.args.out.now.items c.put_ticks.new.out.items c.clock_after-clock.result c.as_slice-firings.result.now _
    (c.put_ticks.ensures ∙ ap (λ (xs : List _). xs ++ map (tick_out c.clock_after-clock.result) c.as_slice-firings.result.now) c.in_ok-reserve-2.ensures.items)
    (sym (ap (λ (s : Service). timers_puts_at s.shape s.journal (c.args.port, c.args.note)) c.self.view_is)
    ∙ puts_ticked i.shape i.journal.items c.args.port c.args.note c.args.moment c.clock_after-clock.result i.clock i.timers.entries i.dues.keys i.slots i.clients_done i.bridge_done i.queues_done means clock_is c.self.invariant
    yet c.in_ok-first_dues.ensures.ordered c.as_slice-keys.result.now c.as_slice-firings.result.now
    (c.as_slice-keys.ensures.value ∙ c.in_ok-first_dues.ensures.keys) (c.as_slice-firings.ensures.value ∙ c.in_ok-found.ensures))

pub returns-clause-listener : goal.returns-clause-listener
returns-clause-listener g c =
    listeners_ticked c.args.out.now.items c.put_ticks.new.out.items c.clock_after-clock.result c.as_slice-firings.result.now
    (c.put_ticks.ensures ∙ ap (λ (xs : List _). xs ++ map (tick_out c.clock_after-clock.result) c.as_slice-firings.result.now) c.in_ok-reserve-2.ensures.items)
