use Rattle.std.proofs.Common.{◌≡◌, ◌<◌}
use Rattle.crossbeam_deque.specs.Handles.{view, IsPassOf, stealer_deque}
use Rattle.mama_pool.proofs.steps.take.Given as goal

abbrev pub invariant-loop : goal.invariant-loop
invariant-loop g l = record {
  pass : IsPassOf (stealer_deque l.reach) l.pass;
  share : 0 < (view l.pass).shares;
  view : view l.pass ≡ view l.initial.pass;
}
