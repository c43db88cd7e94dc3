use Rattle.std.proofs.Common.{◌≡◌}
use Rattle.crossbeam_deque.specs.Handles.{view, IsPassOf, stealer_deque}
use Rattle.crossbeam_utils.specs.Seq.{cell_view}
use Rattle.mama_pool.proofs.share.take_counted.Given as goal

abbrev pub invariant-loop : goal.invariant-loop
invariant-loop g l = record {
  pass : IsPassOf (stealer_deque l.reach) l.pass;
  count : l.count.table_id ≡ l.initial.count.table_id;
  view : view l.pass ≡ view l.initial.pass;
  counts : cell_view l.count ≡ cell_view l.initial.count;
}
