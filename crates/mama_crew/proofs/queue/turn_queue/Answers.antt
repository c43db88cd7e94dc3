use Rattle.std.proofs.Common.{◌∙◌, ap, sym, subst}
use Rattle.mama_lane.specs.Values.{LaneValue}
use Rattle.mama_rules_rounds.specs.Client.{Planned}
use Rattle.std.proofs.Common.{List}
use Rattle.mama_posts_clients.specs.Queue.{IsQueueOf}
use Rattle.mama_crew.proofs.SeatLemmas.{queue_turned, lane_there, lane_is}
use Rattle.mama_crew.proofs.queue.turn_queue.Goals as goal

pub to_queue-lane-requires : goal.to_queue-lane-requires
to_queue-lane-requires g c = lane_there c.args.hall.now.to_queues c.args.number c.args.post.now.inlet.taker.lane c.requires.lane

pub turn-requires-clause-seat : goal.turn-requires-clause-seat
turn-requires-clause-seat g c = subst (λ (objects : List Planned). IsQueueOf objects c.args.number c.args.post.now) (sym c.plans-plans.ensures) c.requires.keeps

pub turn-requires-clause-lane : goal.turn-requires-clause-lane
turn-requires-clause-lane g c = lane_is c.args.hall.now.to_queues c.args.number c.args.post.now.inlet.taker.lane c.to_queue-lane.result.now c.requires.lane c.to_queue-lane.ensures

pub turn-requires-clause-bridge : goal.turn-requires-clause-bridge
turn-requires-clause-bridge g c = c.requires.on_bridge.lane_is ∙ ap (λ (l : LaneValue). l.id) (sym c.to_bridge-bridge.ensures)

pub turn-requires-clause-timers : goal.turn-requires-clause-timers
turn-requires-clause-timers g c = c.requires.on_timers.lane_is ∙ ap (λ (l : LaneValue). l.id) (sym c.to_timers-timers.ensures)

pub returns-clause-seat : goal.returns-clause-seat
returns-clause-seat g c =
    queue_turned c.args._script.now c.args.hall.now c.args.number c.args.post.now c.turn.new.self c.requires
    (subst (λ (objects : List Planned). IsQueueOf objects c.args.number c.turn.new.self) c.plans-plans.ensures c.turn.ensures.seat) c.turn.ensures.place c.turn.ensures.taker c.turn.ensures.rows

pub returns-clause-waiting : goal.returns-clause-waiting
returns-clause-waiting g c = λ is. let idle = c.turn.ensures.waiting is in (idle.0, (idle.1, idle.2, idle.3))
