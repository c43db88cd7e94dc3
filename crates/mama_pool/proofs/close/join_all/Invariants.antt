use Rattle.std.proofs.Common.{◌≡◌}
use Rattle.crossbeam_deque.specs.Handles.{worker_deque, worker_port, worker_view}
use Rattle.crossbeam_utils.specs.Seq.{cell_view}
use Rattle.mama_pool.specs.Steps.{joined_all, added_all}
use Rattle.mama_pool.proofs.close.join_all.Given as goal

abbrev pub invariant-loop-share : goal.invariant-loop-share
invariant-loop-share g l = record {
  home : (worker_deque l.home ≡ worker_deque l.initial.home) × (worker_port l.home ≡ 0);
  opener : l.opener.table_id ≡ l.initial.opener.table_id;
  view : worker_view l.home ≡ joined_all (worker_view l.initial.home) l.yielded;
  count : cell_view l.opener ≡ added_all (cell_view l.initial.opener) l.yielded;
}
