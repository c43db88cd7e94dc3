use Rattle.std.proofs.Common.{◌≡◌, ◌+◌, true, length}
use Rattle.std.specs.List.{All}
use Rattle.mama_work.specs.Kept.{seats_of}
use Rattle.mama_work.proofs.groups.join_all.Given as goal

abbrev pub invariant-loop-child : goal.invariant-loop-child
invariant-loop-child g l = record {
  sits : All (g.S.Seat.sits l.script l.hall) l.back.seats.items;
  ended : l.back.ended ≡ true → All g.S.Seat.is_over l.back.seats.items;
  all : l.back.ended ≡ true → (l.initial.back.ended ≡ true) × (length l.back.seats.items ≡ length l.initial.back.seats.items + seats_of l.yielded);
}
