-- believed: What contracts see of the timer service: its shape, and its journal.
use Rattle.std.specs.Prelude.{ℕ, Bool, List, [], ◌∷◌, ◌++◌}
use Rattle.std.specs.List.{list_any}
use Rattle.mama_journal.specs.Journal.{turns, all_below}
use Rattle.mama_event.specs.Ports.{queues_of}
use Rattle.mama_event.specs.declared.shape.Shape.{Shape}
use Rattle.mama_event.specs.declared.to_timers.TimersNote.{TimersNote}
use Rattle.mama_rules_services.specs.Ports.{timers_putter}
use Rattle.mama_rules_services.specs.Timers.{TimersEvent, put_by, heard, ends_queue}

pub record Service : Type 0 where
  pub shape : Shape
  pub journal : List (ℕ × TimersNote)

-- the service with one entry more
abbrev pub taken : Service → ℕ × TimersNote → Service
taken service entry = record { shape = service.shape; journal = service.journal ++ entry ∷ [] }

-- a Bye of every queue came
abbrev pub every_bye : Shape → List TimersEvent → Bool
every_bye shape es = all_below (queues_of shape) (λ k. list_any (ends_queue k) es)

-- an entry is the Bye of the last queue: a Bye of every queue came with it, and had not before
abbrev pub is_last_bye : Service → ℕ × TimersNote → Bool
is_last_bye service entry = turns (every_bye service.shape) (heard service.shape service.journal) (put_by (timers_putter service.shape entry.0) entry.1)
