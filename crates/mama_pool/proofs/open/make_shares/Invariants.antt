use Rattle.std.proofs.Common.{◌≡◌, ◌-◌, ◌≤◌, [], replicate, vec_len, vec_capacity}
use Rattle.crossbeam_deque.specs.Handles.{worker_deque, worker_port, worker_view}
use Rattle.crossbeam_utils.specs.Seq.{cell_view}
use Rattle.mama_pool.specs.Values.{new_share}
use Rattle.mama_pool.specs.Steps.{view_of, count_of}
use Rattle.mama_pool.proofs.open.make_shares.Given as goal

abbrev pub invariant-loop : goal.invariant-loop
invariant-loop g l = record {
  room : l.workers ≤ vec_capacity l.shares;
  many : vec_len l.shares ≡ l.counter;
  shares : l.shares.items ≡ replicate l.counter (new_share (record { deque = worker_deque l.initial.home; tally = l.tally.value.table.shared.table_id }));
  home : (worker_deque l.home ≡ worker_deque l.initial.home) × (worker_port l.home ≡ 0) × (worker_view l.home ≡ view_of (65 - l.counter) [] []);
  opener : (l.opener.table_id ≡ l.initial.opener.table_id) × (cell_view l.opener ≡ count_of (65 - l.counter) 0 0 0 0);
}
