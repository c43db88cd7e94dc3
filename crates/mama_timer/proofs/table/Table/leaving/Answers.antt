use Rattle.std.proofs.Common.{Result, Ok, Err, ap, ◌∙◌}
use Rattle.std.specs.List.{flat_map}
use Rattle.std.specs.Result.{IfOk}
use Rattle.mama_rules_services.specs.Timers.{heard, has_ending, gone, live_timers, timers_puts}
use Rattle.mama_timer.specs.Service.{Service}
use Rattle.mama_timer.proofs.Words.{leaving_are}
use Rattle.mama_timer.proofs.table.Table.leaving.Goals as goal

if_ok : {T E : Type 0} (r : Result T E) (P Q : T → Type 0) → ((v : T) → P v → Q v) → IfOk r P → IfOk r Q
if_ok (Ok v) P Q f h = f v h
if_ok (Err e) P Q f h = h

pub returns : goal.returns
returns c =
    let i = c.self.inside in
    if_ok c.all_leaving.result _ _ (λ left is.
    leaving_are i.shape i.journal.items i.clock i.timers.entries i.dues.keys i.slots i.clients_done i.bridge_done i.queues_done
    (ap (λ (s : Service). has_ending s.shape (heard s.shape s.journal)) c.self.view_is ∙ c.requires) c.self.invariant left.items is c.all_leaving.ensures.ordered c.all_leaving.ensures.found
    ∙ ap (λ (s : Service). flat_map (gone (timers_puts s.shape s.journal)) (live_timers s.shape (heard s.shape s.journal))) c.self.view_is)
    c.all_leaving.ensures.left
