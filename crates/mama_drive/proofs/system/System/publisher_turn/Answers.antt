use Rattle.std.proofs.Common.{arith, ap, refl, ◌+◌, sym, subst, map, ◌<◌, length}
use Rattle.mama_event.specs.ToBridge.{note_of}
use Rattle.mama_plans.specs.Put.{own_tag}
use Rattle.mama_drive.specs.Scene.{Scene, lane_in}
use Rattle.mama_drive.proofs.MarkLemmas.{marked_turned}
use Rattle.mama_drive.proofs.SeatLemmas.{taken_stays}
use Rattle.mama_drive.proofs.HeldTurnLemmas.{publisher_turned, all_wait}
use Rattle.mama_drive.proofs.SystemLemmas.{with_sender, with_same_lane}
use Rattle.mama_drive.proofs.system.System.publisher_turn.Goals as goal

pub overflow_add-port : goal.overflow_add-port
overflow_add-port c =
    let within : c.args.number < length c.self.inside.publishers.items = subst (λ (s : Scene). c.args.number < length s.senders) (sym c.self.view_is) c.requires in
    omega (arith, within, c.self.invariant.ports, c.self.invariant.sender_count)

pub invariant_of-self : goal.invariant_of-self
invariant_of-self c = with_same_lane _ _ _ _ _ _ _ _ _ _ _ _ c.self.invariant c.args.number c.index_mut-seat.result.now c.turn.new.self c.index_mut-seat.ensures.value (ap lane_in c.in_err-out.ensures.err)

pub invariant_of-self-2 : goal.invariant_of-self-2
invariant_of-self-2 c = with_sender _ _ _ _ _ _ _ _ _ _ _ _ c.self.invariant c.args.number c.turn.new.self c.unmark.new.marks
    (marked_turned lane_in c.self.inside.publishers.items c.args.number c.turn.new.self c.self.inside.marked_publishers c.unmark.new.marks c.self.invariant.publishers_marked
    c.index_mut-seat.result.now c.is_quiet-is_empty.result (subst (λ (s : Scene). c.args.number < length s.senders) (sym c.self.view_is) c.requires) c.index_mut-seat.ensures.value
    c.is_quiet-is_empty.ensures (taken_stays c.index_mut-seat.result.now c.turn.new.self c.in_ok-out.ensures.seat) c.unmark.ensures)

pub returns-clause-turn : goal.returns-clause-turn
returns-clause-turn c =
    publisher_turned _ c.args.self.now c.args.number (c.self.inside.shape.now.clients + c.args.number) c.index_mut-seat.result.now c.turn.new.self (map (note_of own_tag) c.in_ok-out.out.items) _ c.self.view_is
    (subst (λ (s : Scene). c.args.number < length s.senders) (sym c.self.view_is) c.requires) c.index_mut-seat.ensures.value
    c.in_ok-out.ensures.seat c.in_ok-out.ensures.puts refl (all_wait (map (note_of own_tag)) c.all.result c.in_ok-out.out.items c.all.ensures)
