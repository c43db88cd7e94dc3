use Rattle.std.proofs.Common.{◌≡◌, ◌+◌, ◌≤◌, ◌++◌, true, map, vec_len}
use Rattle.std.specs.VecDeque.{deque_len, deque_capacity}
use Rattle.mama_work.specs.Serving.{AllKeep, ArePlaced, numbers_of}
use Rattle.mama_work.proofs.hands.join_serving.Given as goal

abbrev pub invariant-loop-server : goal.invariant-loop-server
invariant-loop-server g l = record {
  room : vec_len l.servers + deque_len l.hands ≤ deque_capacity l.hands;
  places : ArePlaced (map (λ s. s.promise.start.value) l.initial.servers.items ++ l.initial.hands.items) (map (λ s. s.promise.start.value) l.servers.items ++ l.hands.items);
  hands : l.is_whole ≡ true → AllKeep (map (λ s. s.promise.start.value) l.initial.servers.items ++ l.initial.hands.items) (map (λ s. s.promise.start.value) l.servers.items ++ l.hands.items) (numbers_of g.S.Seat.acts l.initial.kept.items) (numbers_of g.S.Seat.acts l.kept.items);
}

abbrev pub decreases-loop-server : goal.decreases-loop-server
decreases-loop-server g l = vec_len l.servers
