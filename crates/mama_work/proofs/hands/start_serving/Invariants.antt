use Rattle.std.proofs.Common.{◌≡◌, ◌+◌, ◌≤◌, ◌++◌, map, vec_len, vec_capacity}
use Rattle.std.specs.VecDeque.{deque_len, deque_capacity}
use Rattle.mama_work.proofs.hands.start_serving.Given as goal

abbrev pub invariant-loop-held : goal.invariant-loop-held
invariant-loop-held g l = record {
  starts : map (λ s. s.promise.start.value) l.servers.items ++ l.hands.items ≡ l.fn.hands.items;
  count : vec_len l.servers + deque_len l.hands ≡ vec_len l.fn.hands;
  room : (vec_len l.fn.hands ≤ vec_capacity l.servers) × (vec_len l.fn.hands ≤ deque_capacity l.hands);
}
