-- believed: A queue's seat: the queue with its journal and its lane, its groups and its watches.
use Rattle.std.specs.Prelude.{ℕ, Bool, true, List, [], ◌∷◌, ◌++◌, map}
use Rattle.mama_event.specs.declared.to_queue.QueueNote.{QueueNote}
use Rattle.mama_event.specs.declared.group.GroupRow.{GroupRow}
use Rattle.mama_event.specs.declared.watch.WatchRow.{WatchRow}
use Rattle.mama_dispatch.specs.Journals.{may_come}
use Rattle.mama_rules_queue.specs.Queue.{QueuePut}
use Rattle.mama_rules_queue.specs.Watch.{watched_puts_at}
use Rattle.mama_rules_rounds.specs.Client.{Planned}
use Rattle.mama_plans.specs.Orders.{orders_in}

-- heard: as much of the journal as the groups were told
pub record Server : Type 0 where
  pub objects : List Planned
  pub groups : List (ℕ × GroupRow)
  pub watches : List (ℕ × WatchRow)
  pub journal : List (ℕ × QueueNote)
  pub heard : List (ℕ × QueueNote)
  pub lane : List (ℕ × QueueNote)

-- the first event of a lane, if there is one, may come
abbrev pub first_may_come : List (ℕ × QueueNote) → List (ℕ × QueueNote) → Bool
first_may_come journal [] = true
first_may_come journal (e ∷ rest) = may_come journal e.1

-- a queue takes the first event of its lane. Its groups are told nothing yet.
abbrev pub served : Server → List (ℕ × QueueNote) → Server
served s [] = s
served s (e ∷ rest) = record s { lane = rest; journal = s.journal ++ e ∷ [] }

-- the groups were told all that was done
abbrev pub all_told : Server → Server
all_told s = record s { heard = s.journal }

abbrev pub rows_in : Server → List WatchRow
rows_in s = map (λ (w : ℕ × WatchRow). w.1) s.watches

abbrev pub served_puts : Server → List (ℕ × QueueNote) → List QueuePut
served_puts s [] = []
served_puts s (e ∷ rest) = watched_puts_at (orders_in s.objects) (rows_in s) s.journal e
