-- A timer service that takes a journal again.
use Rattle.std.proofs.Common.{◌≡◌, ℕ, ◌+◌, ◌<◌, take, List, [], ◌∷◌, ◌++◌, length, get_or, ap, sym, ◌∙◌}
use Rattle.mama_event.specs.declared.shape.Shape.{Shape}
use Rattle.mama_event.specs.declared.to_timers.TimersNote.{TimersNote}
use Rattle.mama_event.specs.declared.to_queue.QueueNote.{QueueNote}
use Rattle.mama_rules_services.specs.Timers.{timers_puts_at}
use Rattle.mama_timer.specs.Service.{Service}
use Rattle.mama_check_puts.proofs.Lists.{so_far}

-- it took one entry more
pub service_next : (shape : Shape) (journal : List (ℕ × TimersNote)) (i : ℕ) (d : ℕ × TimersNote) (old new : Service) → i < length journal
    → old ≡ record { shape = shape; journal = take i journal } → new ≡ record { shape = old.shape; journal = old.journal ++ get_or journal i d ∷ [] }
    → new ≡ record { shape = shape; journal = take (i + 1) journal }
service_next shape journal i d old new within was took =
    took ∙ ap (λ (s : Service). record { shape = s.shape; journal = s.journal ++ get_or journal i d ∷ [] }) was
    ∙ ap (λ (es : List (ℕ × TimersNote)). record { shape = shape; journal = es }) (sym (so_far journal i d within))

-- and put what its journal puts there
pub service_puts : (shape : Shape) (before : List (ℕ × TimersNote)) (e : ℕ × TimersNote) (old : Service) (puts : List (ℕ × QueueNote))
    → old ≡ record { shape = shape; journal = before } → puts ≡ timers_puts_at old.shape old.journal e → puts ≡ timers_puts_at shape before e
service_puts shape before e old puts was put = put ∙ ap (λ (s : Service). timers_puts_at s.shape s.journal e) was
