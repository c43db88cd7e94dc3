use Rattle.std.proofs.Common.{Bool, ◌&&◌, ap, sym, ◌∙◌}
use Rattle.mama_rules_services.specs.Timers.{heard, has_ending}
use Rattle.mama_timer.specs.Service.{Service}
use Rattle.mama_timer.proofs.Keeping.{ended_is}
use Rattle.mama_timer.proofs.table.Table.has_ended.Goals as goal

pub returns-then-is_full : goal.returns-then-is_full
returns-then-is_full c =
    ap (λ (b : Bool). b && c.self.inside.bridge_done) (sym c.if-is_full.true ∙ c.is_full.ensures)
    ∙ ended_is c.self.inside.shape (heard c.self.inside.shape c.self.inside.journal.items) c.self.inside.clients_done c.self.inside.bridge_done c.self.inside.queues_done c.self.invariant.rolls
    ∙ ap (λ (s : Service). has_ending s.shape (heard s.shape s.journal)) c.self.view_is

pub returns-else-is_full : goal.returns-else-is_full
returns-else-is_full c =
    c.if-is_full.false ∙ ap (λ (b : Bool). b && c.self.inside.bridge_done) (sym c.if-is_full.false ∙ c.is_full.ensures)
    ∙ ended_is c.self.inside.shape (heard c.self.inside.shape c.self.inside.journal.items) c.self.inside.clients_done c.self.inside.bridge_done c.self.inside.queues_done c.self.invariant.rolls
    ∙ ap (λ (s : Service). has_ending s.shape (heard s.shape s.journal)) c.self.view_is
