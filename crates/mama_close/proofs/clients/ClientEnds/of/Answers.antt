use Rattle.std.proofs.Common.{ℕ}
use Rattle.mama_crew.specs.Client.{ClientSeatValue}
use Rattle.mama_record.specs.RunView.{moments_of}
use Rattle.mama_close.specs.Kinds.{read_by}
use Rattle.mama_gather.proofs.Lists.{mapped_more}
use Rattle.mama_close.proofs.clients.ClientEnds.of.Goals as goal

pub loop-seat-preserved : goal.loop-seat-preserved
loop-seat-preserved g c =
    let i = c.loop-seat.invariant in
    let e = c.in_ok-add.ensures in
    record {
      to_bridge = mapped_more (λ (s : ℕ × ClientSeatValue). s.1.post.ports.to_bridge) c.loop-seat.yielded c.in-Some.seat c.loop-seat.ends.to_bridge.items c.add.new.self.to_bridge.items e.to_bridge i.to_bridge;
      to_timers = mapped_more (λ (s : ℕ × ClientSeatValue). s.1.post.ports.to_timers) c.loop-seat.yielded c.in-Some.seat c.loop-seat.ends.to_timers.items c.add.new.self.to_timers.items e.to_timers i.to_timers;
      moments = mapped_more read_by c.loop-seat.yielded c.in-Some.seat (moments_of c.loop-seat.ends.moments.items) (moments_of c.add.new.self.moments.items) e.moments i.moments;
    }
