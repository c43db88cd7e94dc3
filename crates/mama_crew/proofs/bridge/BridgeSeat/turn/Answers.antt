use mathlib.Core.List.{IsPrefix}
use Rattle.std.specs.Prelude.{[]}
use Rattle.std.proofs.Common.{◌≡◌, ◌∙◌, ap, sym, subst}
use Rattle.mama_lane.specs.Values.{LaneValue}
use Rattle.mama_posts_services.specs.Bridge.{BridgePostValue, is_over}
use Rattle.mama_posts_services.specs.Ports.{lanes_of, ids_of}
use Rattle.mama_posts_services.specs.Service.{HasEnded, IsIdle, MadeStep}
use Rattle.mama_crew.specs.Seat.{IsBridgeIn}
use Rattle.mama_crew.proofs.SeatLemmas.{bridge_turned, bridge_own, seen}
use Rattle.mama_crew.proofs.bridge.BridgeSeat.turn.Goals as goal

pub turn-pace-requires-clause-seat : goal.turn-pace-requires-clause-seat
turn-pace-requires-clause-seat g c = bridge_own c.args._script.now c.args.hall.now c.self.inside.post c.args.self.now c.self.view_is c.requires

pub turn-pace-requires-clause-lane : goal.turn-pace-requires-clause-lane
turn-pace-requires-clause-lane g c = ap (λ (v : BridgePostValue). v.service.inlet.taker.lane) c.self.view_is ∙ c.requires.lane ∙ ap (λ (l : LaneValue). l.id) (sym c.to_bridge-lane.ensures)

pub turn-pace-requires-clause-publishers : goal.turn-pace-requires-clause-publishers
turn-pace-requires-clause-publishers g c = ap (λ (v : BridgePostValue). lanes_of v.ports.publishers) c.self.view_is ∙ c.requires.publishers ∙ ap ids_of (sym c.to_publishers-publishers.ensures)

pub turn-pace-requires-clause-queues : goal.turn-pace-requires-clause-queues
turn-pace-requires-clause-queues g c = ap (λ (v : BridgePostValue). lanes_of v.ports.queues) c.self.view_is ∙ c.requires.queues ∙ ap ids_of (sym c.to_queues-queues.ensures)

pub turn-pace-requires-clause-timers : goal.turn-pace-requires-clause-timers
turn-pace-requires-clause-timers g c = ap (λ (v : BridgePostValue). v.ports.timers.lane) c.self.view_is ∙ c.requires.timers ∙ ap (λ (l : LaneValue). l.id) (sym c.to_timers-timers.ensures)

pub returns : goal.returns
returns g c =
    let script = c.args._script.now in
    let hall = c.args.hall.now in
    let turned = seen (IsBridgeIn script hall) (λ (old new : BridgePostValue). IsPrefix old.service.journal new.service.journal) (λ (v : BridgePostValue). IsIdle v.service)
    (λ (v : BridgePostValue). HasEnded (is_over v.service.shape) v.service) (λ (old new : BridgePostValue). MadeStep old.service new.service × (new.service.left ≡ []))
    c.turn-pace.result c.self.inside.post c.turn-pace.new.self c.args.self.now c.ended-ended.new.self c.self.view_is c.ended-ended.ensures.same
    (record {
      seat = bridge_turned script hall c.self.inside.post c.turn-pace.new.self (subst (IsBridgeIn script hall) (sym c.self.view_is) c.requires) c.turn-pace.ensures.seat c.turn-pace.ensures.place c.turn-pace.ensures.taker;
      grows = c.turn-pace.ensures.grows;
      waiting = c.turn-pace.ensures.waiting;
      ended = c.turn-pace.ensures.ended;
      over = c.turn-pace.ensures.over;
      moved = c.turn-pace.ensures.moved;
    }) in
    record {
      seat = turned.seat;
      grows = turned.grows;
      waiting = turned.waiting;
      ended = turned.ended;
      over = turned.over;
      moved = turned.moved;
    }
