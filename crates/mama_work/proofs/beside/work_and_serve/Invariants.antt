use Rattle.std.proofs.Common.{◌≡◌, length}
use Rattle.std.specs.List.{All}
use Rattle.mama_work.specs.Serving.{Follows, numbers_of}
use Rattle.mama_work.proofs.beside.work_and_serve.Given as goal

abbrev pub invariant-loop : goal.invariant-loop
invariant-loop g l = record {
  sits : All (g.S.Seat.sits l.fn.shared.script.now l.fn.shared.hall.now) l.seats.items;
  all : length l.seats.items ≡ length l.initial.seats.items;
  hand : Follows l.initial.hand l.hand (numbers_of g.S.Seat.acts l.initial.kept.items) (numbers_of g.S.Seat.acts l.kept.items);
}
