use Rattle.std.specs.List.{All}
use Rattle.mama_shown.specs.Seat.{IsSeatOf}
use Rattle.mama_play.proofs.groups.empty_groups.Given as goal

abbrev pub invariant-loop : goal.invariant-loop
invariant-loop g l = All (λ group. All (IsSeatOf l._script l._hall) group.items) l.groups.items
