-- A worked run of the timer service, computed by its definition.
use Rattle.std.proofs.Common.{◌≡◌, ℕ, List, [], ◌∷◌, refl}
use Rattle.mama_event.specs.declared.ids.TimerId.{TimerId}
use Rattle.mama_event.specs.declared.ids.ObjectId.TheVariants.{Timer}
use Rattle.mama_event.specs.declared.to_timers.TimersNote.{TimersNote}
use Rattle.mama_event.specs.declared.to_timers.TimersNote.TheVariants as t
use Rattle.mama_event.specs.declared.to_queue.QueueNote.{QueueNote}
use Rattle.mama_event.specs.declared.to_queue.QueueNote.TheVariants as q
use Rattle.mama_event.specs.declared.to_queue.Make.TheVariants as make
use Rattle.mama_event.specs.declared.shape.Shape.{Shape}
use Rattle.mama_event.specs.declared.shape.Strategy.TheVariants as strategy
use Rattle.mama_rules_services.specs.Timers.{timers_puts}

abbrev pub quiet : Shape
quiet = record { clients = 1; publisher_topics = []; bounds = record { topics = 0; queues = 1 }; strategy = strategy.One }

abbrev pub timer : TimerId
timer = record { client = 0; number = 0 }

-- a tick carries the clock, a moment below the clock changes nothing, and the second tick is due ten after the first
abbrev pub two_ticks : List (ℕ × TimersNote)
two_ticks =
    (0, t.Arm timer 0 10 (Timer timer)) ∷ (0, t.Now 10) ∷ (0, t.Now 10) ∷ (0, t.Now 7) ∷ (0, t.Now 35)
    ∷ (1, t.Disarm timer) ∷ (0, t.ClientDone) ∷ (2, t.Fin) ∷ (1, t.Bye) ∷ []

pub puts_of_two_ticks : timers_puts quiet two_ticks ≡
    (0, q.Create 0 (Timer timer) make.Timer (Timer timer)) ∷ (0, q.Tick 0 timer 10) ∷ (0, q.Tick 0 timer 35)
    ∷ (0, q.Gone 0 (Timer timer)) ∷ (0, q.Fin) ∷ []
puts_of_two_ticks = refl
