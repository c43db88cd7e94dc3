use Rattle.std.proofs.Common.{ℕ, List, [], ◌∷◌, ap, sym, refl}
use Rattle.mama_event.specs.declared.to_timers.TimersNote.TheVariants as t
use Rattle.mama_script.specs.declared.client.ClientLine.TheVariants as line
use Rattle.mama_rules_queue.specs.Queue.{to_timers}
use Rattle.mama_plans.specs.Names.{standing_of}
use Rattle.mama_check_puts.proofs.TellerSteps.{line_told}
use Rattle.mama_check_puts.proofs.client.Teller.read.Goals as goal

pub returns : goal.returns
returns c =
    line_told c.args.self.now _ line.NowClock (to_timers (t.Now c.next_moment-moment.result.0)) refl refl refl
    (ap (λ (m : ℕ). (to_timers (t.Now m) ∷ []) ∷ []) (sym c.next_moment-moment.ensures.moment))
    (ap (λ (ms : List ℕ). standing_of c.args.self.now.names ms) (sym c.next_moment-moment.ensures.rest))
    c.in_ok-add.ensures.bridge c.in_ok-add.ensures.timers
