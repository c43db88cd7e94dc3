use Rattle.std.proofs.Common.{◌≡◌, ℕ, ◌+◌, ◌++◌, map, ◌∙◌, ap, arith}
use Rattle.std.specs.Vec.Iter.{into_iter_items}
use Rattle.mama_journal.specs.Journal.{numbers_below}
use Rattle.mama_edge.specs.declared.gate.GateActor.TheVariants as gate
use Rattle.mama_event.specs.declared.to_bridge.BridgeNote.{BridgeNote}
use Rattle.mama_event.specs.declared.to_timers.TimersNote.{TimersNote}
use Rattle.mama_event.specs.Ports.{clients_of}
use Rattle.mama_lane.specs.Values.{new_port}
use Rattle.mama_hall.specs.Ends.{ports_from}
use Rattle.mama_crew.specs.Seat.{actor_of}
use Rattle.mama_crew.proofs.OpeningLemmas.{next_left, some_left, ports_length, port_at, actors_more}
use Rattle.mama_crew.proofs.opening.seat_clients.Goals as goal

pub next_of-own-requires : goal.next_of-own-requires
next_of-own-requires g c =
    let count = c.requires.listeners in
    let end = ap clients_of c.shape.ensures.value in
    some_left (c.args.listeners.items) c.loop-number.number (into_iter_items c.loop-number.owned) c.loop-number.invariant.owned (omega (arith, c.loop-number-test.true))

pub next_of-bridge-requires : goal.next_of-bridge-requires
next_of-bridge-requires g c =
    let count = ports_length BridgeNote c.args.hall.now.to_bridge 0 (clients_of c.args.script.now.shape) in
    let end = ap clients_of c.shape.ensures.value in
    some_left (ports_from c.args.hall.now.to_bridge 0 (clients_of c.args.script.now.shape)) c.loop-number.number (into_iter_items c.loop-number.bridge_ports) c.loop-number.invariant.bridge (omega (arith, c.loop-number-test.true))

pub next_of-timers-requires : goal.next_of-timers-requires
next_of-timers-requires g c =
    let count = ports_length TimersNote c.args.hall.now.to_timers 0 (clients_of c.args.script.now.shape) in
    let end = ap clients_of c.shape.ensures.value in
    some_left (ports_from c.args.hall.now.to_timers 0 (clients_of c.args.script.now.shape)) c.loop-number.number (into_iter_items c.loop-number.timer_ports) c.loop-number.invariant.timers (omega (arith, c.loop-number-test.true))

pub new-seat-requires-clause-there : goal.new-seat-requires-clause-there
new-seat-requires-clause-there g c = let end = ap clients_of c.shape.ensures.value in omega (arith, c.loop-number-test.true)

pub new-seat-requires-clause-bridge : goal.new-seat-requires-clause-bridge
new-seat-requires-clause-bridge g c =
    let next = next_left (ports_from c.args.hall.now.to_bridge 0 (clients_of c.args.script.now.shape)) c.loop-number.number c.next_of-bridge.result _ _ c.loop-number.invariant.bridge c.next_of-bridge.ensures in
    let same : 0 + c.loop-number.number ≡ c.loop-number.number = omega arith in
    port_at c.args.hall.now.to_bridge 0 (clients_of c.args.script.now.shape) c.loop-number.number c.next_of-bridge.result next.0 ∙ ap (λ (i : ℕ). new_port c.args.hall.now.to_bridge i) same

pub new-seat-requires-clause-timers : goal.new-seat-requires-clause-timers
new-seat-requires-clause-timers g c =
    let next = next_left (ports_from c.args.hall.now.to_timers 0 (clients_of c.args.script.now.shape)) c.loop-number.number c.next_of-timers.result _ _ c.loop-number.invariant.timers c.next_of-timers.ensures in
    let same : 0 + c.loop-number.number ≡ c.loop-number.number = omega arith in
    port_at c.args.hall.now.to_timers 0 (clients_of c.args.script.now.shape) c.loop-number.number c.next_of-timers.result next.0 ∙ ap (λ (i : ℕ). new_port c.args.hall.now.to_timers i) same

pub add-requires-clause-seat : goal.add-requires-clause-seat
add-requires-clause-seat g c = record { sits = c.new-seat.ensures.seat; new = c.new-seat.ensures.new }

pub loop-number-preserved : goal.loop-number-preserved
loop-number-preserved g c =
    let own = next_left (c.args.listeners.items) c.loop-number.number c.next_of-own.result _ _ c.loop-number.invariant.owned c.next_of-own.ensures in
    let bridge = next_left (ports_from c.args.hall.now.to_bridge 0 (clients_of c.args.script.now.shape)) c.loop-number.number c.next_of-bridge.result _ _ c.loop-number.invariant.bridge c.next_of-bridge.ensures in
    let timers = next_left (ports_from c.args.hall.now.to_timers 0 (clients_of c.args.script.now.shape)) c.loop-number.number c.next_of-timers.result _ _ c.loop-number.invariant.timers c.next_of-timers.ensures in
    record {
      owned = own.1;
      bridge = bridge.1;
      timers = timers.1;
      actors = actors_more (λ n. gate.Client n) _ _ _ c.loop-number.number c.loop-number.invariant.actors c.in_ok-add.ensures.actors;
      seats = c.in_ok-add.ensures.seats;
    }

pub returns-clause-actors : goal.returns-clause-actors
returns-clause-actors g c =
    let end = ap clients_of c.shape.ensures.value in
    let all : c.loop-number.number ≡ clients_of c.args.script.now.shape = omega (arith, c.loop-number-test.false) in
    c.loop-number.invariant.actors ∙ ap (λ (n : ℕ). map actor_of c.args.seats.now.items ++ map (λ k. gate.Client k) (numbers_below n)) all
