use Rattle.std.proofs.Common.{Bool, ◌&&◌, not, ap, sym, ◌∙◌}
use Rattle.std.specs.List.{list_all}
use Rattle.mama_journal.specs.Journal.{turns}
use Rattle.mama_rules_services.specs.Timers.{heard, has_ending, fin}
use Rattle.mama_timer.specs.Service.{Service}
use Rattle.mama_event.specs.declared.to_timers.TimersNote.TheVariants as TimersNote
use Rattle.mama_timer.proofs.Words.{bridge_turns}
use Rattle.mama_timer.proofs.table.Table.ends_with_bridge.Goals as goal

pub returns : goal.returns
returns c =
    let i = c.self.inside in
    c.newly.ensures ∙ ap (λ (b : Bool). b && not c.has_ended-had.result) c.is_full.ensures
    ∙ ap (λ (b : Bool). list_all (λ b. b) i.clients_done && not b) (c.has_ended-had.ensures ∙ sym (ap (λ (s : Service). has_ending s.shape (heard s.shape s.journal)) c.self.view_is))
    ∙ bridge_turns i.shape i.journal.items 0 TimersNote.Fin i.clock i.timers.entries i.dues.keys i.slots i.clients_done i.bridge_done i.queues_done c.self.invariant
    ∙ ap (λ (s : Service). turns (has_ending s.shape) (heard s.shape s.journal) fin) c.self.view_is
