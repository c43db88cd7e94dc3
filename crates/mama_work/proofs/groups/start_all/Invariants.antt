use Rattle.std.proofs.Common.{◌≡◌, ◌+◌, false, length}
use Rattle.std.specs.Prelude.{sum_by}
use Rattle.std.specs.List.{All}
use Rattle.mama_work.specs.Kept.{IsOf, seats_of}
use Rattle.mama_work.proofs.groups.start_all.Given as goal

abbrev pub invariant-loop-group : goal.invariant-loop-group
invariant-loop-group g l = record {
  children : All (λ h. IsOf l.shared.script.now l.shared.hall.now h.promise) l.started.children.items;
  left : All (g.S.Seat.sits l.shared.script.now l.shared.hall.now) l.started.left.items;
  all : l.started.short ≡ false → seats_of l.started.children.items + length l.started.left.items ≡ sum_by (λ group. length group.items) l.yielded;
}
