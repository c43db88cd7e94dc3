use Rattle.std.proofs.Common.{◌≡◌, ◌++◌, map}
use Rattle.std.specs.List.{All, flat_map}
use Rattle.mama_grouped.specs.Seat as grouped
use Rattle.mama_board.specs.Values.{new_reader}
use Rattle.mama_shown.specs.New.{IsNewSeatOf}
use Rattle.mama_shown.specs.Seat.{actor_of, queue_in}
use Rattle.mama_shown.proofs.crew.with_boards.Given as goal

abbrev pub invariant-loop-seat : goal.invariant-loop-seat
invariant-loop-seat g l = record {
  whole : l.yielded ++ l.seat-iterator.rest.items ≡ l.fn.seats.items;
  actors : map actor_of l.shown.items ≡ map grouped.actor_of l.yielded;
  seats : All (IsNewSeatOf l.script l.hall) l.shown.items;
  readers : l.readers.items ≡ map new_reader (flat_map (λ s. queue_in (grouped.actor_of s)) l.yielded);
}
