use Rattle.std.proofs.Common.{arith, refl, ◌+◌, sym, subst, map, ◌<◌, length, List}
use Rattle.mama_event.specs.ToBridge.{note_of}
use Rattle.mama_event.specs.declared.to_bridge.BridgeNote.{BridgeNote}
use Rattle.mama_seats.specs.Sender.{IsSenderStep}
use Rattle.mama_plans.specs.Put.{own_tag}
use Rattle.std.proofs.Math.ListN.{set}
use Rattle.mama_drive.specs.Scene.{Scene}
use Rattle.mama_seats.specs.Waiting.{waits}
use Rattle.mama_drive.proofs.HeldTurnLemmas.{sender_stepped_held, sender_step_clients, all_wait}
use Rattle.mama_drive.proofs.SeatLemmas.{lane_same}
use Rattle.mama_drive.proofs.SystemLemmas.{with_same_lane}
use Rattle.mama_drive.proofs.system.System.sender_turn.Goals as goal

pub overflow_add-port : goal.overflow_add-port
overflow_add-port c =
    let within : c.args.number < length c.self.inside.publishers.items = subst (λ (s : Scene). c.args.number < length s.senders) (sym c.self.view_is) c.requires in
    omega (arith, within, c.self.invariant.ports, c.self.invariant.sender_count)

pub invariant_of-self : goal.invariant_of-self
invariant_of-self c = with_same_lane _ _ _ _ _ _ _ _ _ _ _ _ c.self.invariant c.args.number c.index_mut-seat.result.now c.step.new.self c.index_mut-seat.ensures.value
    (lane_same c.step.result c.index_mut-seat.result.now c.step.new.self (λ out. map (note_of own_tag) out.items) (λ (puts : List BridgeNote). IsSenderStep c.index_mut-seat.result.now c.step.new.self puts)
    (λ puts step. step.lane) c.step.ensures.step c.step.ensures.err)

pub invariant_of-self-2 : goal.invariant_of-self-2
invariant_of-self-2 c = with_same_lane _ _ _ _ _ _ _ _ _ _ _ _ c.self.invariant c.args.number c.index_mut-seat.result.now c.step.new.self c.index_mut-seat.ensures.value
    (lane_same c.step.result c.index_mut-seat.result.now c.step.new.self (λ out. map (note_of own_tag) out.items) (λ (puts : List BridgeNote). IsSenderStep c.index_mut-seat.result.now c.step.new.self puts)
    (λ puts step. step.lane) c.step.ensures.step c.step.ensures.err)

pub returns-clause-step : goal.returns-clause-step
returns-clause-step c =
    sender_stepped_held _ c.args.self.now c.args.number (c.self.inside.shape.now.clients + c.args.number) c.index_mut-seat.result.now c.step.new.self (map (note_of own_tag) c.in_ok-out.out.items) _ c.self.view_is
    (subst (λ (s : Scene). c.args.number < length s.senders) (sym c.self.view_is) c.requires) c.index_mut-seat.ensures.value c.in_ok-out.ensures.step refl (all_wait (map (note_of own_tag)) c.all.result c.in_ok-out.out.items c.all.ensures)

pub returns-clause-clients : goal.returns-clause-clients
returns-clause-clients c = sender_step_clients _ c.args.self.now (c.self.inside.shape.now.clients + c.args.number) (map (note_of own_tag) (waits c.all.result)) (set c.self.inside.publishers.items c.args.number c.step.new.self) c.self.view_is
