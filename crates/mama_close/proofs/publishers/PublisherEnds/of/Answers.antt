use Rattle.std.proofs.Common.{ℕ}
use Rattle.mama_posts_services.specs.Publisher.{PublisherPostValue}
use Rattle.mama_record.specs.RunView.{entries_of}
use Rattle.mama_close.specs.Kinds.{entries_by}
use Rattle.mama_gather.proofs.Lists.{mapped_more}
use Rattle.mama_close.proofs.publishers.PublisherEnds.of.Goals as goal

pub loop-seat-preserved : goal.loop-seat-preserved
loop-seat-preserved g c =
    let i = c.loop-seat.invariant in
    let e = c.in_ok-add.ensures in
    record {
      takers = mapped_more (λ (s : ℕ × PublisherPostValue). s.1.inlet.taker) c.loop-seat.yielded c.in-Some.seat c.loop-seat.ends.takers.items c.add.new.self.takers.items e.takers i.takers;
      to_bridge = mapped_more (λ (s : ℕ × PublisherPostValue). s.1.port) c.loop-seat.yielded c.in-Some.seat c.loop-seat.ends.to_bridge.items c.add.new.self.to_bridge.items e.to_bridge i.to_bridge;
      journals = mapped_more entries_by c.loop-seat.yielded c.in-Some.seat (entries_of c.loop-seat.ends.journals.items) (entries_of c.add.new.self.journals.items) e.journals i.journals;
    }
