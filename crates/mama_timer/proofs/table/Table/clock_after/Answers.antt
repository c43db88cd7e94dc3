use Rattle.std.proofs.Common.{◌++◌, ◌∷◌, [], ℕ, ap, ◌∙◌}
use Rattle.mama_rules_services.specs.Timers.{heard, clock, now}
use Rattle.mama_timer.specs.Service.{Service}
use Rattle.std.specs.Prelude.{max}
use Rattle.mama_timer.proofs.Keeping.{clock_next}
use Rattle.mama_timer.proofs.table.Table.clock_after.Goals as goal

pub returns : goal.returns
returns c =
    let i = c.self.inside in
    c.max.ensures ∙ ap (λ (n : ℕ). max i.clock n) c.min.ensures
    ∙ clock_next i.shape i.journal.items i.clock c.args.moment i.timers.entries i.dues.keys i.slots i.clients_done i.bridge_done i.queues_done c.self.invariant
    ∙ ap (λ (s : Service). clock (heard s.shape s.journal ++ now c.args.moment ∷ [])) c.self.view_is
