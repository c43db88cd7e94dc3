use Rattle.std.proofs.Common.{◌≡◌, ℕ, ◌+◌, ◌++◌, map, ◌∙◌, ap, arith}
use Rattle.std.specs.Vec.Iter.{into_iter_items}
use Rattle.mama_journal.specs.Journal.{numbers_below}
use Rattle.mama_edge.specs.declared.gate.GateActor.TheVariants as gate
use Rattle.mama_event.specs.declared.to_bridge.BridgeNote.{BridgeNote}
use Rattle.mama_event.specs.declared.to_queue.QueueNote.{QueueNote}
use Rattle.mama_event.specs.declared.to_timers.TimersNote.{TimersNote}
use Rattle.mama_event.specs.Ports.{clients_of, publishers_of, queues_of}
use Rattle.mama_rules_rounds.specs.Sections.{setting_of}
use Rattle.mama_lane.specs.Values.{new_taker}
use Rattle.mama_hall.specs.Ends.{ports_from}
use Rattle.mama_crew.specs.Seat.{actor_of}
use Rattle.mama_crew.proofs.OpeningLemmas.{next_left, some_left, takers_length, ports_length, port_at, actors_more}
use Rattle.mama_crew.proofs.WatchLemmas.{lists_count, list_at}
use Rattle.mama_crew.proofs.opening.seat_queues.Goals as goal

pub next_of-taker-requires : goal.next_of-taker-requires
next_of-taker-requires g c =
    let count = takers_length QueueNote c.args.hall.now.to_queues ∙ c.requires.lanes.queues_count in
    let end = ap queues_of c.shape.ensures.value in
    some_left (map new_taker c.args.hall.now.to_queues) c.loop-number.number (into_iter_items c.loop-number.inlets) c.loop-number.invariant.takers (omega (arith, c.loop-number-test.true))

pub next_of-bridge-requires : goal.next_of-bridge-requires
next_of-bridge-requires g c =
    let count = ports_length BridgeNote c.args.hall.now.to_bridge (clients_of c.args.script.now.shape + publishers_of c.args.script.now.shape) (queues_of c.args.script.now.shape) in
    let end = ap queues_of c.shape.ensures.value in
    some_left (ports_from c.args.hall.now.to_bridge (clients_of c.args.script.now.shape + publishers_of c.args.script.now.shape) (queues_of c.args.script.now.shape)) c.loop-number.number (into_iter_items c.loop-number.bridge_ports) c.loop-number.invariant.bridge (omega (arith, c.loop-number-test.true))

pub next_of-timers-requires : goal.next_of-timers-requires
next_of-timers-requires g c =
    let count = ports_length TimersNote c.args.hall.now.to_timers (clients_of c.args.script.now.shape) (queues_of c.args.script.now.shape) in
    let end = ap queues_of c.shape.ensures.value in
    some_left (ports_from c.args.hall.now.to_timers (clients_of c.args.script.now.shape) (queues_of c.args.script.now.shape)) c.loop-number.number (into_iter_items c.loop-number.timer_ports) c.loop-number.invariant.timers (omega (arith, c.loop-number-test.true))

pub next_of-watches-requires : goal.next_of-watches-requires
next_of-watches-requires g c =
    let count = lists_count c.args.watches.items (setting_of c.args.script.now).watches (queues_of c.args.script.now.shape) c.requires.watches in
    let end = ap queues_of c.shape.ensures.value in
    some_left c.args.watches.items c.loop-number.number (into_iter_items c.loop-number.lists) c.loop-number.invariant.watches (omega (arith, c.loop-number-test.true))

pub new_queue-requires-clause-watches : goal.new_queue-requires-clause-watches
new_queue-requires-clause-watches g c =
    list_at c.args.watches.items (setting_of c.args.script.now).watches (queues_of c.args.script.now.shape) c.loop-number.number c.next_of-watches.result c.requires.watches
    (next_left c.args.watches.items c.loop-number.number c.next_of-watches.result _ _ c.loop-number.invariant.watches c.next_of-watches.ensures).0

pub new_queue-requires-clause-there : goal.new_queue-requires-clause-there
new_queue-requires-clause-there g c = let end = ap queues_of c.shape.ensures.value in omega (arith, c.loop-number-test.true)

pub new_queue-requires-clause-taker : goal.new_queue-requires-clause-taker
new_queue-requires-clause-taker g c = (next_left (map new_taker c.args.hall.now.to_queues) c.loop-number.number c.next_of-taker.result _ _ c.loop-number.invariant.takers c.next_of-taker.ensures).0

pub new_queue-requires-clause-bridge : goal.new_queue-requires-clause-bridge
new_queue-requires-clause-bridge g c = port_at c.args.hall.now.to_bridge (clients_of c.args.script.now.shape + publishers_of c.args.script.now.shape) (queues_of c.args.script.now.shape) c.loop-number.number c.next_of-bridge.result (next_left (ports_from c.args.hall.now.to_bridge (clients_of c.args.script.now.shape + publishers_of c.args.script.now.shape) (queues_of c.args.script.now.shape)) c.loop-number.number c.next_of-bridge.result _ _ c.loop-number.invariant.bridge c.next_of-bridge.ensures).0

pub new_queue-requires-clause-timers : goal.new_queue-requires-clause-timers
new_queue-requires-clause-timers g c = port_at c.args.hall.now.to_timers (clients_of c.args.script.now.shape) (queues_of c.args.script.now.shape) c.loop-number.number c.next_of-timers.result (next_left (ports_from c.args.hall.now.to_timers (clients_of c.args.script.now.shape) (queues_of c.args.script.now.shape)) c.loop-number.number c.next_of-timers.result _ _ c.loop-number.invariant.timers c.next_of-timers.ensures).0

pub add-requires-clause-seat : goal.add-requires-clause-seat
add-requires-clause-seat g c = record { sits = c.in_ok-seat.ensures.seat; new = c.in_ok-seat.ensures.new }

pub loop-number-preserved : goal.loop-number-preserved
loop-number-preserved g c =
    let taker = next_left (map new_taker c.args.hall.now.to_queues) c.loop-number.number c.next_of-taker.result _ _ c.loop-number.invariant.takers c.next_of-taker.ensures in
    let bridge = next_left (ports_from c.args.hall.now.to_bridge (clients_of c.args.script.now.shape + publishers_of c.args.script.now.shape) (queues_of c.args.script.now.shape)) c.loop-number.number c.next_of-bridge.result _ _ c.loop-number.invariant.bridge c.next_of-bridge.ensures in
    let timers = next_left (ports_from c.args.hall.now.to_timers (clients_of c.args.script.now.shape) (queues_of c.args.script.now.shape)) c.loop-number.number c.next_of-timers.result _ _ c.loop-number.invariant.timers c.next_of-timers.ensures in
    record {
      takers = taker.1;
      bridge = bridge.1;
      timers = timers.1;
      watches = (next_left c.args.watches.items c.loop-number.number c.next_of-watches.result _ _ c.loop-number.invariant.watches c.next_of-watches.ensures).1;
      actors = actors_more (λ n. gate.Queue n) _ _ _ c.loop-number.number c.loop-number.invariant.actors c.in_ok-add.ensures.actors;
      seats = c.in_ok-add.ensures.seats;
    }

pub returns-clause-actors : goal.returns-clause-actors
returns-clause-actors g c =
    let end = ap queues_of c.shape.ensures.value in
    let all : c.loop-number.number ≡ queues_of c.args.script.now.shape = omega (arith, c.loop-number-test.false) in
    c.loop-number.invariant.actors ∙ ap (λ (n : ℕ). map actor_of c.args.seats.now.items ++ map (λ k. gate.Queue k) (numbers_below n)) all
