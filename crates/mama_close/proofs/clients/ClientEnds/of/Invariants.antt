use Rattle.std.proofs.Common.{◌≡◌, map}
use Rattle.mama_record.specs.RunView.{moments_of}
use Rattle.mama_close.specs.Kinds.{read_by}
use Rattle.mama_close.proofs.clients.ClientEnds.of.Given as goal

abbrev pub invariant-loop-seat : goal.invariant-loop-seat
invariant-loop-seat g l = record {
  to_bridge : l.ends.to_bridge.items ≡ map (λ s. s.1.post.ports.to_bridge) l.yielded;
  to_timers : l.ends.to_timers.items ≡ map (λ s. s.1.post.ports.to_timers) l.yielded;
  moments : moments_of l.ends.moments.items ≡ map read_by l.yielded;
}
