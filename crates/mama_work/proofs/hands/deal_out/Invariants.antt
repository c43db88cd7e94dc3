use Rattle.std.proofs.Common.{◌≡◌, ◌++◌, []}
use Rattle.std.specs.List.{All}
use Rattle.mama_work.specs.Serving.{AllFollow, numbers_of}
use Rattle.mama_work.proofs.hands.deal_out.Given as goal

abbrev pub invariant-loop-seat : goal.invariant-loop-seat
invariant-loop-seat g l = record {
  whole : l.yielded ++ l.seat-iterator.rest.items ≡ l.fn.queues.items;
  rest : All g.K.Crew.has l.seat-iterator.rest.items;
  dealt : AllFollow l.initial.hands.items l.hands.items (numbers_of g.S.Seat.acts l.yielded) [];
}
