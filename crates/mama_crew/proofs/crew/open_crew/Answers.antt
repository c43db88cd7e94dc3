use Rattle.std.proofs.Common.{[], map, ◌∙◌, ap}
use Rattle.std.proofs.lemmas.List.Elements.{All-nil, All-same, All-weaker}
use Rattle.mama_edge.specs.declared.gate.GateActor.TheVariants as gate
use Rattle.mama_event.specs.Ports.{clients_of}
use Rattle.mama_crew.specs.Seat.{actor_of, IsSeatOf}
use Rattle.mama_crew.specs.Crew.{client_actors, publisher_actors, queue_actors}
use Rattle.mama_crew.specs.New.{HasDoneNothing, IsNewSeatOf}
use Rattle.mama_crew.proofs.OpeningLemmas.{actors_joined}
use Rattle.mama_crew.proofs.crew.open_crew.Goals as goal

pub watches_by_queue-requires : goal.watches_by_queue-requires
watches_by_queue-requires g c = c.plans.ensures ∙ c.in_ok-hall.ensures.hall.objects

pub seat_queues-requires-clause-watches : goal.seat_queues-requires-clause-watches
seat_queues-requires-clause-watches g c = c.in_ok-watches.ensures

pub seat_clients-requires-clause-listeners : goal.seat_clients-requires-clause-listeners
seat_clients-requires-clause-listeners g c = c.in_ok-listeners.ensures ∙ ap clients_of c.shape.ensures.value

pub seat_clients-requires-clause-seats : goal.seat_clients-requires-clause-seats
seat_clients-requires-clause-seats g c =
    let P = IsNewSeatOf c.args.script.now c.in_ok-hall.hall in
    All-same P c.new-seats.result.items [] c.new-seats.ensures.items (All-nil P)

pub seat_publishers-requires-clause-takers : goal.seat_publishers-requires-clause-takers
seat_publishers-requires-clause-takers g c = c.in_ok-hall.ensures.publishers_takers

pub seat_publishers-requires-clause-bridge : goal.seat_publishers-requires-clause-bridge
seat_publishers-requires-clause-bridge g c = c.in_ok-hall.ensures.publishers_bridge

pub seat_bridge-requires-clause-taker : goal.seat_bridge-requires-clause-taker
seat_bridge-requires-clause-taker g c = c.in_ok-hall.ensures.bridge_taker

pub seat_bridge-requires-clause-publishers : goal.seat_bridge-requires-clause-publishers
seat_bridge-requires-clause-publishers g c = c.in_ok-hall.ensures.bridge_publishers

pub seat_bridge-requires-clause-queues : goal.seat_bridge-requires-clause-queues
seat_bridge-requires-clause-queues g c = c.in_ok-hall.ensures.bridge_queues

pub seat_bridge-requires-clause-timers : goal.seat_bridge-requires-clause-timers
seat_bridge-requires-clause-timers g c = c.in_ok-hall.ensures.bridge_timers

pub seat_timers-requires-clause-taker : goal.seat_timers-requires-clause-taker
seat_timers-requires-clause-taker g c = c.in_ok-hall.ensures.timers_taker

pub seat_timers-requires-clause-queues : goal.seat_timers-requires-clause-queues
seat_timers-requires-clause-queues g c = c.in_ok-hall.ensures.timers_queues

pub seat_queues-requires-clause-takers : goal.seat_queues-requires-clause-takers
seat_queues-requires-clause-takers g c = c.in_ok-hall.ensures.queues_takers

pub seat_queues-requires-clause-bridge : goal.seat_queues-requires-clause-bridge
seat_queues-requires-clause-bridge g c = c.in_ok-hall.ensures.queues_bridge

pub seat_queues-requires-clause-timers : goal.seat_queues-requires-clause-timers
seat_queues-requires-clause-timers g c = c.in_ok-hall.ensures.queues_timers

pub returns-clause-crew : goal.returns-clause-crew
returns-clause-crew g c = record {
  hall_is = c.in_ok-hall.ensures.hall;
  actors = actors_joined (client_actors c.args.script.now.shape) (publisher_actors c.args.script.now.shape) (queue_actors c.args.script.now.shape) gate.Bridge gate.Timers _ _ _ _ _ _
      (ap (map actor_of) c.new-seats.ensures.items) c.in_ok-seat_clients.ensures.actors c.in_ok-seat_publishers.ensures.actors c.in_ok-seat_bridge.ensures.actors c.in_ok-seat_timers.ensures.actors
      c.in_ok-seat_queues.ensures.actors;
  each = All-weaker (IsNewSeatOf c.args.script.now c.in_ok-hall.hall) (IsSeatOf c.args.script.now c.in_ok-hall.hall) (λ seat is. is.sits) _ c.in_ok-seat_queues.ensures.seats;
}

pub returns-clause-new : goal.returns-clause-new
returns-clause-new g c = All-weaker (IsNewSeatOf c.args.script.now c.in_ok-hall.hall) HasDoneNothing (λ seat is. is.new) _ c.in_ok-seat_queues.ensures.seats
