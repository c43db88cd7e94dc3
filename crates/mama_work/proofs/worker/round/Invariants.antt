use Rattle.std.proofs.Common.{◌≡◌, length, map}
use Rattle.std.specs.List.{All}
use Rattle.mama_work.proofs.worker.round.Given as goal

abbrev pub invariant-loop-seat : goal.invariant-loop-seat
invariant-loop-seat g l = record {
  sits : All (g.S.Seat.sits l.shared.script.now l.shared.hall.now) l.seat-items;
  all : length l.seat-items ≡ length l.initial.seat-items;
  actors : map g.S.Seat.acts l.seat-items ≡ map g.S.Seat.acts l.initial.seat-items;
}
