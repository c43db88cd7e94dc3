use Rattle.std.proofs.Common.{◌≡◌, ◌++◌}
use Rattle.std.specs.List.{All}
use Rattle.mama_work.proofs.hands.into_seats.Given as goal

abbrev pub invariant-loop-dispatcher : goal.invariant-loop-dispatcher
invariant-loop-dispatcher g l = record {
  whole : l.yielded ++ l.dispatcher-iterator.rest.items ≡ l.fn.dispatchers.items;
  sits : All (g.S.Seat.sits l.shared.script.now l.shared.hall.now) l.seats.items;
  all : l.seats.items ≡ l.yielded;
}
