use Rattle.std.proofs.Common.{◌≡◌, ◌+◌, ◌≤◌, ℕ, List, ◌++◌}
use Rattle.std.specs.VecDeque.{deque_len, deque_capacity}
use Rattle.crossbeam_queue.specs.SegBatches.{Holds}
use Rattle.crossbeam_queue.specs.SegTies.{IsSegPassOf}
use Rattle.mama_lane.proofs.steps.unpack.Given as goal

abbrev pub invariant-each : goal.invariant-each
invariant-each g l = record {
  pass : IsSegPassOf l.queue l.pass × (l.pass.id ≡ 0);
  view : l.pass.me.view.client ≡ l.initial.pass.me.view.client;
  capacity : deque_capacity l.buffer ≡ deque_capacity l.initial.buffer;
  room : deque_len l.buffer + l.batch.len ≤ deque_capacity l.buffer;
  events : (xs : List (ℕ × g.row.E.Denot)) → Holds l.queue l.initial.pass l.initial.batch xs → (left : List (ℕ × g.row.E.Denot)) × Holds l.queue l.pass l.batch left × (xs ≡ l.buffer.items ++ left);
}

abbrev pub decreases-each : goal.decreases-each
decreases-each g l = l.batch.len
