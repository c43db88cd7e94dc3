-- believed: What the timer service puts to each queue, and when what it heard lets it put only what it may.
use Rattle.std.specs.Prelude.{◌≡◌, ◌<◌, ℕ, Bool, true, false, List, ◌∷◌, ◌++◌}
use Rattle.mama_journal.specs.Lane.{by_port}
use Rattle.mama_event.specs.Lawful.{IsLawful}
use Rattle.mama_event.specs.Ports.{clients_of, timers_port_of_client}
use Rattle.mama_event.specs.ToTimers as timers
use Rattle.mama_event.specs.declared.shape.Shape.{Shape}
use Rattle.mama_event.specs.declared.to_timers.TimersNote.{TimersNote}
use Rattle.mama_event.specs.declared.to_queue.QueueNote.{QueueNote}
use Rattle.mama_rules_services.specs.Timers.{TimersEvent, arms, has_ending, timers_puts}

-- the stream to a queue
abbrev pub queue_stream : Shape → List (ℕ × TimersNote) → ℕ → List QueueNote
queue_stream shape journal queue = by_port queue (timers_puts shape journal)

-- an event that arms a timer
abbrev pub is_arming : TimersEvent → Bool
is_arming (arms timer queue interval tag) = true
is_arming _ = false

-- no timer is armed after the ending, as clients put nothing after their last word
pub record IsTimely (shape : Shape) (es : List TimersEvent) : Type 0 where
  pub each : (before : List TimersEvent) (e : TimersEvent) (after : List TimersEvent) → es ≡ before ++ e ∷ after → has_ending shape before ≡ true → is_arming e ≡ false

-- each client put what it may put
pub record ClientsAreLawful (shape : Shape) (journal : List (ℕ × TimersNote)) : Type 0 where
  pub each : (client : ℕ) → client < clients_of shape → IsLawful timers.is_last (timers.fits shape.bounds) (by_port (timers_port_of_client shape client) journal)
