use Rattle.std.proofs.Common.{ap, ◌∙◌}
use Rattle.std.specs.List.{list_any}
use Rattle.mama_rules_services.specs.Timers.{heard, arms_timer, timers_puts}
use Rattle.mama_timer.specs.Rows.{row_of}
use Rattle.mama_timer.specs.Service.{Service}
use Rattle.mama_timer.proofs.Keeping.{row_came}
use Rattle.mama_timer.proofs.table.Table.knows.Goals as goal

pub returns : goal.returns
returns c = c.contains_key.ensures
    ∙ row_came c.self.inside.shape (heard c.self.inside.shape c.self.inside.journal.items) (timers_puts c.self.inside.shape c.self.inside.journal.items) (row_of c.self.inside.timers.entries) c.args.timer c.self.invariant.stands.rows
    ∙ ap (λ (s : Service). list_any (arms_timer c.args.timer) (heard s.shape s.journal)) c.self.view_is
