use Rattle.std.proofs.Common.{ℕ, List, ◌∙◌, ◌++◌, ap, sym, map}
use Rattle.mama_event.specs.ToBridge.{note_of}
use Rattle.mama_event.specs.declared.to_bridge.BridgeNote.{BridgeNote}
use Rattle.mama_rules_services.specs.Bridge.{bridge_puts_at}
use Rattle.mama_bridge.specs.Outs.{put_note}
use Rattle.mama_plans.specs.Put.{own_tag}
use Rattle.mama_drive.specs.Entry.{bridge_entry}
use Rattle.mama_drive.specs.Seat.{ServiceSeat, took_puts}
use Rattle.mama_drive.proofs.bridge_seat.BridgeSeat.turn.Goals as goal

pub returns-in-Ok-clause-puts : goal.returns-in-Ok-clause-puts
returns-in-Ok-clause-puts c =
    let whole : List (ℕ × BridgeNote) → ServiceSeat BridgeNote = λ lane. record { shape = c.self.inside.bridge.shape; journal = c.self.inside.bridge.journal; lane = lane } in
    c.in-Ok.ensures.puts
    ∙ ap (λ l. map (put_note own_tag) l ++ bridge_puts_at c.self.inside.bridge.shape c.self.inside.bridge.journal (c.in-Some.port, note_of own_tag c.in-Some.event)) c.new-out.ensures
    ∙ sym (ap (λ es. took_puts bridge_puts_at (whole (map bridge_entry es)) (map bridge_entry es)) c.in-Some.ensures.items)
    ∙ ap (λ (s : ServiceSeat BridgeNote). took_puts bridge_puts_at s s.lane) c.self.view_is
