use Rattle.std.proofs.Common.{ℕ, List, ◌∙◌, ◌++◌, ap, sym, map}
use Rattle.mama_event.specs.ToTimers.{note_of}
use Rattle.mama_event.specs.declared.to_timers.TimersNote.{TimersNote}
use Rattle.mama_rules_services.specs.Timers.{timers_puts_at}
use Rattle.mama_timer.specs.Out.{out_note}
use Rattle.mama_plans.specs.Put.{own_tag}
use Rattle.mama_drive.specs.Entry.{timers_entry}
use Rattle.mama_drive.specs.Seat.{ServiceSeat, took_puts}
use Rattle.mama_drive.proofs.timers_seat.TimersSeat.turn.Goals as goal

pub returns-in-Ok-clause-puts : goal.returns-in-Ok-clause-puts
returns-in-Ok-clause-puts c =
    let whole : List (ℕ × TimersNote) → ServiceSeat TimersNote = λ lane. record { shape = c.self.inside.timers.shape; journal = c.self.inside.timers.journal; lane = lane } in
    c.in-Ok.ensures.puts
    ∙ ap (λ l. map (out_note own_tag) l ++ timers_puts_at c.self.inside.timers.shape c.self.inside.timers.journal (c.in-Some.port, note_of own_tag c.in-Some.event)) c.new-out.ensures
    ∙ sym (ap (λ es. took_puts timers_puts_at (whole (map timers_entry es)) (map timers_entry es)) c.in-Some.ensures.items)
    ∙ ap (λ (s : ServiceSeat TimersNote). took_puts timers_puts_at s s.lane) c.self.view_is
