use Rattle.std.specs.List.{All}
use Rattle.mama_shown.specs.Seat.{IsSeatOf}
use Rattle.mama_play.proofs.groups.in_groups.Given as goal

abbrev pub invariant-loop-seat : goal.invariant-loop-seat
invariant-loop-seat g l = record {
  rest : All (IsSeatOf l.script l.hall) l.seat-iterator.rest.items;
  groups : All (λ group. All (IsSeatOf l.script l.hall) group.items) l.made.groups.items;
  queues : All (IsSeatOf l.script l.hall) l.made.queues.items;
}
