use Rattle.std.proofs.Common.{◌≡◌, ℕ, ◌+◌, ◌++◌, map, ◌∙◌, ap, arith}
use Rattle.std.specs.Vec.Iter.{into_iter_items}
use Rattle.mama_journal.specs.Journal.{numbers_below}
use Rattle.mama_edge.specs.declared.gate.GateActor.TheVariants as gate
use Rattle.mama_event.specs.declared.to_bridge.BridgeNote.{BridgeNote}
use Rattle.mama_event.specs.declared.to_publisher.PublisherNote.{PublisherNote}
use Rattle.mama_event.specs.Ports.{clients_of, publishers_of}
use Rattle.mama_lane.specs.Values.{new_taker}
use Rattle.mama_hall.specs.Ends.{ports_from}
use Rattle.mama_crew.specs.Seat.{actor_of}
use Rattle.mama_crew.proofs.OpeningLemmas.{next_left, some_left, takers_length, ports_length, port_at, actors_more}
use Rattle.mama_crew.proofs.opening.seat_publishers.Goals as goal

pub next_of-taker-requires : goal.next_of-taker-requires
next_of-taker-requires g c =
    let count = takers_length PublisherNote c.args.hall.now.to_publishers ∙ c.requires.lanes.publishers_count in
    let end = ap publishers_of c.shape.ensures.value in
    some_left (map new_taker c.args.hall.now.to_publishers) c.loop-number.number (into_iter_items c.loop-number.inlets) c.loop-number.invariant.takers (omega (arith, c.loop-number-test.true))

pub next_of-bridge-requires : goal.next_of-bridge-requires
next_of-bridge-requires g c =
    let count = ports_length BridgeNote c.args.hall.now.to_bridge (clients_of c.args.script.now.shape) (publishers_of c.args.script.now.shape) in
    let end = ap publishers_of c.shape.ensures.value in
    some_left (ports_from c.args.hall.now.to_bridge (clients_of c.args.script.now.shape) (publishers_of c.args.script.now.shape)) c.loop-number.number (into_iter_items c.loop-number.bridge_ports) c.loop-number.invariant.bridge (omega (arith, c.loop-number-test.true))

pub new-requires-clause-there : goal.new-requires-clause-there
new-requires-clause-there g c = let end = ap publishers_of c.shape.ensures.value in omega (arith, c.loop-number-test.true)

pub new-requires-clause-taker : goal.new-requires-clause-taker
new-requires-clause-taker g c = (next_left (map new_taker c.args.hall.now.to_publishers) c.loop-number.number c.next_of-taker.result _ _ c.loop-number.invariant.takers c.next_of-taker.ensures).0

pub new-requires-clause-port : goal.new-requires-clause-port
new-requires-clause-port g c = port_at c.args.hall.now.to_bridge (clients_of c.args.script.now.shape) (publishers_of c.args.script.now.shape) c.loop-number.number c.next_of-bridge.result (next_left (ports_from c.args.hall.now.to_bridge (clients_of c.args.script.now.shape) (publishers_of c.args.script.now.shape)) c.loop-number.number c.next_of-bridge.result _ _ c.loop-number.invariant.bridge c.next_of-bridge.ensures).0

pub add-requires-clause-seat : goal.add-requires-clause-seat
add-requires-clause-seat g c = record { sits = c.in_ok-seat.ensures.seat; new = c.in_ok-seat.ensures.new }

pub loop-number-preserved : goal.loop-number-preserved
loop-number-preserved g c =
    let taker = next_left (map new_taker c.args.hall.now.to_publishers) c.loop-number.number c.next_of-taker.result _ _ c.loop-number.invariant.takers c.next_of-taker.ensures in
    let bridge = next_left (ports_from c.args.hall.now.to_bridge (clients_of c.args.script.now.shape) (publishers_of c.args.script.now.shape)) c.loop-number.number c.next_of-bridge.result _ _ c.loop-number.invariant.bridge c.next_of-bridge.ensures in
    record {
      takers = taker.1;
      bridge = bridge.1;
      actors = actors_more (λ n. gate.Publisher n) _ _ _ c.loop-number.number c.loop-number.invariant.actors c.in_ok-add.ensures.actors;
      seats = c.in_ok-add.ensures.seats;
    }

pub returns-clause-actors : goal.returns-clause-actors
returns-clause-actors g c =
    let end = ap publishers_of c.shape.ensures.value in
    let all : c.loop-number.number ≡ publishers_of c.args.script.now.shape = omega (arith, c.loop-number-test.false) in
    c.loop-number.invariant.actors ∙ ap (λ (n : ℕ). map actor_of c.args.seats.now.items ++ map (λ k. gate.Publisher k) (numbers_below n)) all
