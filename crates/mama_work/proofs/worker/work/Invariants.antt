use Rattle.std.proofs.Common.{◌≡◌, length, map}
use Rattle.std.specs.List.{All}
use Rattle.mama_work.proofs.worker.work.Given as goal

abbrev pub invariant-loop : goal.invariant-loop
invariant-loop g l = record {
  sits : All (g.S.Seat.sits l.fn.shared.script.now l.fn.shared.hall.now) l.seats.items;
  all : length l.seats.items ≡ length l.initial.seats.items;
  actors : map g.S.Seat.acts l.seats.items ≡ map g.S.Seat.acts l.initial.seats.items;
}
