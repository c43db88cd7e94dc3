use mathlib.Core.List.{IsPrefix}
use Rattle.std.specs.Prelude.{[]}
use Rattle.std.specs.List.{slice_get}
use Rattle.std.proofs.Common.{◌≡◌, ◌∙◌, Some, ap, sym, subst}
use Rattle.mama_lane.specs.Values.{LaneValue}
use Rattle.mama_script.specs.declared.publisher.PublisherPart.{PublisherPart}
use Rattle.mama_posts_services.specs.Publisher.{PublisherPostValue, HasEnded, MadeStep, IsCaughtUp}
use Rattle.mama_crew.specs.Seat.{IsPublisherIn}
use Rattle.mama_crew.proofs.SeatLemmas.{publisher_turned, lane_there, lane_is, only_one, seen}
use Rattle.mama_crew.proofs.publisher.PublisherSeat.turn.Goals as goal
use Rattle.std.proofs.Common.{true, ◌≡◌}

pub section-part-requires : goal.section-part-requires
section-part-requires g c = c.requires.there

pub to_publisher-lane-requires : goal.to_publisher-lane-requires
to_publisher-lane-requires g c = lane_there c.args.hall.now.to_publishers c.args.number c.args.self.now.inlet.taker.lane c.requires.lane

pub turn-pace-requires-clause-seat : goal.turn-pace-requires-clause-seat
turn-pace-requires-clause-seat g c = (subst (IsPublisherIn c.args.script.now c.args.hall.now c.args.number) (sym c.self.view_is) c.requires).keeps c.section-part.result.now c.section-part.ensures

pub turn-pace-requires-clause-lane : goal.turn-pace-requires-clause-lane
turn-pace-requires-clause-lane g c =
    ap (λ (v : PublisherPostValue). v.inlet.taker.lane) c.self.view_is
    ∙ lane_is c.args.hall.now.to_publishers c.args.number c.args.self.now.inlet.taker.lane c.to_publisher-lane.result.now c.requires.lane c.to_publisher-lane.ensures

pub turn-pace-requires-clause-bridge : goal.turn-pace-requires-clause-bridge
turn-pace-requires-clause-bridge g c = ap (λ (v : PublisherPostValue). v.port.lane) c.self.view_is ∙ c.requires.on_bridge.lane_is ∙ ap (λ (l : LaneValue). l.id) (sym c.to_bridge-bridge.ensures)

pub ended-ended-requires : goal.ended-ended-requires
ended-ended-requires g c = c.turn-pace.ensures.seat.taken

pub returns : goal.returns
returns g c =
    let script = c.args.script.now in
    let hall = c.args.hall.now in
    let number = c.args.number in
    let part = c.section-part.result.now in
    let turned = seen (IsPublisherIn script hall number) (λ (old new : PublisherPostValue). IsPrefix old.progress.journal new.progress.journal)
    (λ (v : PublisherPostValue). (v.progress.over ≡ true) × (v.left ≡ []) × IsCaughtUp v.inlet) HasEnded
    (λ (old new : PublisherPostValue). ((other : PublisherPart) → slice_get script.publishers number ≡ Some other → MadeStep other old new) × (new.left ≡ []))
    c.turn-pace.result c.self.inside.post c.turn-pace.new.self c.args.self.now c.ended-ended.new.self c.self.view_is c.ended-ended.ensures.same
    (record {
      seat = publisher_turned script hall number part c.self.inside.post c.turn-pace.new.self c.section-part.ensures (subst (IsPublisherIn script hall number) (sym c.self.view_is) c.requires)
          c.turn-pace.ensures.seat c.turn-pace.ensures.place c.turn-pace.ensures.taker;
      grows = c.turn-pace.ensures.grows;
      waiting = λ is. let idle = c.turn-pace.ensures.waiting is in (idle.0, (idle.1, idle.2, idle.3));
      ended = c.turn-pace.ensures.ended;
      over = c.turn-pace.ensures.over;
      moved = λ is. let made = c.turn-pace.ensures.moved is in (
        (λ other is_other. subst (λ (s : PublisherPart). MadeStep s c.self.inside.post c.turn-pace.new.self) (only_one script.publishers number part other c.section-part.ensures is_other) made.0),
        made.1,
      );
    }) in
    record {
      seat = turned.seat;
      grows = turned.grows;
      waiting = turned.waiting;
      ended = turned.ended;
      over = turned.over;
      moved = turned.moved;
    }
