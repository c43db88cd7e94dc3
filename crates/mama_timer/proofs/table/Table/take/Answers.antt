use Rattle.std.proofs.Common.{◌≡◌, ap, sym, ◌∙◌, refl}
use Rattle.mama_event.specs.declared.to_timers.TimersNote.{TimersNote}
use Rattle.mama_event.specs.ToTimers.{note_of}
use Rattle.mama_rules_services.specs.Timers.{arms}
use Rattle.mama_timer.specs.Service.{is_last_bye}
use Rattle.mama_timer.proofs.Words.{no_last, running_on}
use Rattle.mama_timer.proofs.table.Table.take.Goals as goal

pub returns-in-Arms-clause-ended : goal.returns-in-Arms-clause-ended
returns-in-Arms-clause-ended g c =
    let same : c.in-Ok.note ≡ note_of g.L.Tagged.tagged c.args.event = cc in
    running_on c.take_arm.result _
    (ap (λ (n : TimersNote). is_last_bye c.args.self.now (c.args.port, n)) (sym same)
    ∙ no_last c.args.self.now c.args.port c.in-Ok.note (arms c.in-Arms.arming.timer c.in-Arms.arming.queue c.in-Arms.arming.interval c.in-Arms.arming.tag) (sym c.in-Arms.ensures) (λ k. refl))
    c.take_arm.ensures.running

pub returns-in_default-clause-ended : goal.returns-in_default-clause-ended
returns-in_default-clause-ended g c =
    let same : c.in-Ok.note ≡ note_of g.L.Tagged.tagged c.args.event = cc in
    running_on c.take_other.result _
    (ap (λ (n : TimersNote). is_last_bye c.args.self.now (c.args.port, n)) (sym same) ∙ c.take_other.ensures.not_last)
    c.take_other.ensures.running
