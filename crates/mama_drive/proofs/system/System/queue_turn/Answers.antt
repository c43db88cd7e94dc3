use Rattle.std.proofs.Common.{arith, false, refl, ◌+◌, sym, subst, ◌<◌, length}
use Rattle.mama_plans.specs.Put.{notes_of}
use Rattle.mama_drive.specs.Scene.{Scene, AreTold, waiting_in}
use Rattle.mama_drive.proofs.MarkLemmas.{marked_turned}
use Rattle.mama_drive.proofs.HeldTurnLemmas.{queue_turned, all_wait}
use Rattle.mama_drive.proofs.LawfulLemmas.{first_at}
use Rattle.mama_drive.proofs.SystemLemmas.{with_same_server, with_turn, told_at}
use Rattle.mama_drive.proofs.SeatLemmas.{turn_kept, served_stays}
use Rattle.mama_drive.proofs.system.System.queue_turn.Goals as goal

pub overflow_add-timers_port : goal.overflow_add-timers_port
overflow_add-timers_port c =
    let within : c.args.number < length c.self.inside.queues.items = subst (λ (s : Scene). c.args.number < length s.servers) (sym c.self.view_is) c.requires.number in
    omega (arith, within, c.self.invariant.ports, c.self.invariant.server_count)

pub port_of_queue-bridge_port-requires : goal.port_of_queue-bridge_port-requires
port_of_queue-bridge_port-requires c =
    let within : c.args.number < length c.self.inside.queues.items = subst (λ (s : Scene). c.args.number < length s.servers) (sym c.self.view_is) c.requires.number in
    omega (arith, within, c.self.invariant.ports, c.self.invariant.server_count)

pub turn-requires-clause-comes : goal.turn-requires-clause-comes
turn-requires-clause-comes c =
    first_at _ c.args.self.now c.args.number c.index_mut-seat.result.now c.self.view_is
    (subst (λ (s : Scene). c.args.number < length s.servers) (sym c.self.view_is) c.requires.number) c.index_mut-seat.ensures.value c.requires.comes

pub turn-requires-clause-told : goal.turn-requires-clause-told
turn-requires-clause-told c =
    told_at c.self.inside.queues.items c.args.number c.index_mut-seat.result.now (subst (λ (s : Scene). c.args.number < length s.servers) (sym c.self.view_is) c.requires.number)
    c.index_mut-seat.ensures.value (subst AreTold (sym c.self.view_is) c.requires.heard)

pub invariant_of-self : goal.invariant_of-self
invariant_of-self c = with_same_server _ _ _ _ _ _ _ _ _ _ _ _ c.self.invariant c.args.number c.index_mut-seat.result.now c.turn.new.self c.index_mut-seat.ensures.value c.in_err-served.ensures.err

pub invariant_of-self-2 : goal.invariant_of-self-2
invariant_of-self-2 c = with_turn _ _ _ _ _ _ _ _ _ _ _ _ c.self.invariant c.args.number c.index_mut-seat.result.now c.turn.new.self c.unmark.new.marks c.index_mut-seat.ensures.value
    (turn_kept c.index_mut-seat.result.now c.turn.new.self c.in_ok-served.ensures.seat)
    (marked_turned waiting_in c.self.inside.queues.items c.args.number c.turn.new.self c.self.inside.marked_queues c.unmark.new.marks c.self.invariant.queues_marked
    c.index_mut-seat.result.now c.is_quiet-is_empty.result (subst (λ (s : Scene). c.args.number < length s.servers) (sym c.self.view_is) c.requires.number) c.index_mut-seat.ensures.value
    c.is_quiet-is_empty.ensures (served_stays c.index_mut-seat.result.now c.turn.new.self c.in_ok-served.ensures.seat) c.unmark.ensures)

pub returns-clause-turn : goal.returns-clause-turn
returns-clause-turn c =
    queue_turned _ c.args.self.now c.args.number c.port_of_queue-bridge_port.result (c.self.inside.shape.now.clients + c.args.number) c.index_mut-seat.result.now c.turn.new.self
    (notes_of c.in_ok-served.served.outs.items) _ c.in_ok-served.served.wish false c.self.view_is (subst (λ (s : Scene). c.args.number < length s.servers) (sym c.self.view_is) c.requires.number) c.index_mut-seat.ensures.value
    c.self.invariant.shared c.self.invariant.watched c.self.invariant.server_count c.in_ok-served.ensures.seat c.in_ok-served.ensures.puts c.port_of_queue-bridge_port.ensures refl
    (all_wait notes_of c.all.result c.in_ok-served.served.outs.items c.all.ensures)
