use Rattle.std.proofs.Common.{ap, sym, ◌∙◌}
use Rattle.std.specs.Option.{option_copied}
use Rattle.mama_rules_services.specs.Timers.{heard, is_armed, place_of, timers_puts}
use Rattle.mama_timer.specs.Rows.{row_of}
use Rattle.mama_timer.specs.Service.{Service}
use Rattle.mama_timer.proofs.Keeping.{no_row_armed}
use Rattle.mama_timer.proofs.table.Table.armed_row.Goals as goal

pub returns-in-Some-clause-armed : goal.returns-in-Some-clause-armed
returns-in-Some-clause-armed c =
    sym c.if-row.true ∙ (c.self.invariant.stands.rows.known c.args.timer c.in-Some.row.now (sym c.in-Some.ensures.value)).armed
    ∙ ap (λ (s : Service). is_armed c.args.timer (heard s.shape s.journal)) c.self.view_is

pub returns-in-Some-clause-place : goal.returns-in-Some-clause-place
returns-in-Some-clause-place c =
    sym (ap (λ (s : Service). place_of c.args.timer (timers_puts s.shape s.journal)) c.self.view_is)
    ∙ (c.self.invariant.stands.rows.known c.args.timer c.in-Some.row.now (sym c.in-Some.ensures.value)).place

pub returns-in_default-clause-armed : goal.returns-in_default-clause-armed
returns-in_default-clause-armed c =
    sym c.if-row.false ∙ (c.self.invariant.stands.rows.known c.args.timer c.in-Some.row.now (sym c.in-Some.ensures.value)).armed
    ∙ ap (λ (s : Service). is_armed c.args.timer (heard s.shape s.journal)) c.self.view_is

pub returns-in_default-2-clause-armed : goal.returns-in_default-2-clause-armed
returns-in_default-2-clause-armed c =
    sym (no_row_armed c.self.inside.shape (heard c.self.inside.shape c.self.inside.journal.items) (timers_puts c.self.inside.shape c.self.inside.journal.items) (row_of c.self.inside.timers.entries) c.args.timer c.self.invariant.stands.rows
    (sym c.get.ensures.value ∙ ap (λ (o : _). option_copied o) c.in_default.is))
    ∙ ap (λ (s : Service). is_armed c.args.timer (heard s.shape s.journal)) c.self.view_is
