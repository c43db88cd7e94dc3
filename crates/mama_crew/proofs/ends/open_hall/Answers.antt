use Rattle.std.proofs.Common.{◌+◌, map, sym, ◌∙◌, ap}
use Rattle.mama_event.specs.declared.shape.Shape.{Shape}
use Rattle.mama_event.specs.Ports.{clients_of, publishers_of, queues_of, timers_port_of_bridge, queue_port_of_bridge, queue_port_of_timers}
use Rattle.mama_lane.specs.Values.{LaneValue, new_port, new_taker}
use Rattle.mama_crew.specs.Hall.{HallValue}
use Rattle.mama_crew.proofs.OpeningLemmas.{are_lanes, ports_moved}
use Rattle.mama_crew.proofs.NewLemmas.{ports_few}
use Rattle.mama_crew.proofs.ends.open_hall.Goals as goal

pub open-requires : goal.open-requires
open-requires g c = record { few = (ports_few c.args.script.now c.shape-shape.result.now c.shape-shape.ensures.script c.shape-shape.ensures.within c.shape-shape.ensures.value).0 }

pub open-requires-2 : goal.open-requires-2
open-requires-2 g c = record { few = (ports_few c.args.script.now c.shape-shape.result.now c.shape-shape.ensures.script c.shape-shape.ensures.within c.shape-shape.ensures.value).1 }

pub returns-clause-hall : goal.returns-clause-hall
returns-clause-hall g c = record {
  objects = ap (λ (h : HallValue). h.objects) c.new-hall.ensures ∙ c.in_ok-plans.ensures;
  lanes = are_lanes c.shape-shape.result.now c.args.script.now.shape c.new-hall.result _ _ _ _ _ c.shape-shape.ensures.value c.new-hall.ensures c.in_ok-bridge.ensures.lane c.in_ok-timers.ensures.lane
      (c.in_ok-publishers.ensures.number ∙ c.len.ensures) c.in_ok-publishers.ensures.lanes c.in_ok-queues.ensures.number c.in_ok-queues.ensures.lanes;
}

pub returns-clause-clients_bridge : goal.returns-clause-clients_bridge
returns-clause-clients_bridge g c =
    ports_moved _ c.new-hall.result.to_bridge c.shape-shape.result.now c.args.script.now.shape (λ (s : Shape). 0) (λ (s : Shape). clients_of s) _ (ap (λ (h : HallValue). h.to_bridge) (sym c.new-hall.ensures)) c.shape-shape.ensures.value c.in_ok-bridge.ensures.clients

pub returns-clause-clients_timers : goal.returns-clause-clients_timers
returns-clause-clients_timers g c =
    ports_moved _ c.new-hall.result.to_timers c.shape-shape.result.now c.args.script.now.shape (λ (s : Shape). 0) (λ (s : Shape). clients_of s) _ (ap (λ (h : HallValue). h.to_timers) (sym c.new-hall.ensures)) c.shape-shape.ensures.value c.in_ok-timers.ensures.clients

pub returns-clause-publishers_takers : goal.returns-clause-publishers_takers
returns-clause-publishers_takers g c =
    c.in_ok-publishers.ensures.takers ∙ ap (λ (h : HallValue). map new_taker h.to_publishers) (sym c.new-hall.ensures)

pub returns-clause-publishers_bridge : goal.returns-clause-publishers_bridge
returns-clause-publishers_bridge g c =
    ports_moved _ c.new-hall.result.to_bridge c.shape-shape.result.now c.args.script.now.shape (λ (s : Shape). clients_of s) (λ (s : Shape). publishers_of s) _ (ap (λ (h : HallValue). h.to_bridge) (sym c.new-hall.ensures)) c.shape-shape.ensures.value c.in_ok-bridge.ensures.publishers

pub returns-clause-bridge_taker : goal.returns-clause-bridge_taker
returns-clause-bridge_taker g c =
    c.in_ok-bridge.ensures.taker ∙ ap (λ (h : HallValue). new_taker h.to_bridge) (sym c.new-hall.ensures)

pub returns-clause-bridge_publishers : goal.returns-clause-bridge_publishers
returns-clause-bridge_publishers g c =
    c.in_ok-publishers.ensures.bridge ∙ ap (λ (h : HallValue). map (λ (lane : LaneValue). new_port lane 0) h.to_publishers) (sym c.new-hall.ensures)

pub returns-clause-bridge_queues : goal.returns-clause-bridge_queues
returns-clause-bridge_queues g c =
    c.in_ok-queues.ensures.bridge ∙ ap (λ (h : HallValue). map (λ (lane : LaneValue). new_port lane queue_port_of_bridge) h.to_queues) (sym c.new-hall.ensures)

pub returns-clause-bridge_timers : goal.returns-clause-bridge_timers
returns-clause-bridge_timers g c =
    c.in_ok-timers.ensures.bridge ∙ ap (λ (h : HallValue). new_port h.to_timers (timers_port_of_bridge c.shape-shape.result.now)) (sym c.new-hall.ensures)
    ∙ ap (λ (s : Shape). new_port c.new-hall.result.to_timers (timers_port_of_bridge s)) c.shape-shape.ensures.value

pub returns-clause-timers_taker : goal.returns-clause-timers_taker
returns-clause-timers_taker g c =
    c.in_ok-timers.ensures.taker ∙ ap (λ (h : HallValue). new_taker h.to_timers) (sym c.new-hall.ensures)

pub returns-clause-timers_queues : goal.returns-clause-timers_queues
returns-clause-timers_queues g c =
    c.in_ok-queues.ensures.timers ∙ ap (λ (h : HallValue). map (λ (lane : LaneValue). new_port lane queue_port_of_timers) h.to_queues) (sym c.new-hall.ensures)

pub returns-clause-queues_takers : goal.returns-clause-queues_takers
returns-clause-queues_takers g c =
    c.in_ok-queues.ensures.takers ∙ ap (λ (h : HallValue). map new_taker h.to_queues) (sym c.new-hall.ensures)

pub returns-clause-queues_bridge : goal.returns-clause-queues_bridge
returns-clause-queues_bridge g c =
    ports_moved _ c.new-hall.result.to_bridge c.shape-shape.result.now c.args.script.now.shape (λ (s : Shape). clients_of s + publishers_of s) (λ (s : Shape). queues_of s) _ (ap (λ (h : HallValue). h.to_bridge) (sym c.new-hall.ensures)) c.shape-shape.ensures.value c.in_ok-bridge.ensures.queues

pub returns-clause-queues_timers : goal.returns-clause-queues_timers
returns-clause-queues_timers g c =
    ports_moved _ c.new-hall.result.to_timers c.shape-shape.result.now c.args.script.now.shape (λ (s : Shape). clients_of s) (λ (s : Shape). queues_of s) _ (ap (λ (h : HallValue). h.to_timers) (sym c.new-hall.ensures)) c.shape-shape.ensures.value c.in_ok-timers.ensures.queues
