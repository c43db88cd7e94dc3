use Rattle.std.proofs.Common.{◌≡◌, ◌++◌, ℕ, List, map}
use Rattle.std.specs.List.{All}
use Rattle.mama_event.specs.declared.to_queue.QueueNote.{QueueNote}
use Rattle.mama_rules_rounds.specs.Client.{Planned}
use Rattle.mama_shown.specs.Last.{HasLast, ReadsLast}
use Rattle.mama_shown.proofs.closing.Learnt.of.Given as goal

abbrev pub invariant-loop-seat : goal.invariant-loop-seat
invariant-loop-seat g l = record {
  whole : l.yielded ++ l.seat-iterator.rest.items ≡ l.fn.seats.items;
  seats : l.learnt.seats.items ≡ map (λ s. s.seat) l.yielded;
  readers : (objects : List Planned) (journals : List (List (ℕ × QueueNote))) → All (HasLast objects journals) l.fn.seats.items → All (ReadsLast objects journals) l.learnt.readers.items;
}
