use Rattle.std.proofs.Common.{sym, subst, ◌<◌, length}
use Rattle.mama_plans.specs.Put.{notes_of}
use Rattle.mama_drive.specs.Scene.{Scene}
use Rattle.mama_seats.specs.Waiting.{waits}
use Rattle.mama_drive.proofs.StageLemmas.{on_err}
use Rattle.mama_drive.proofs.HeldTurnLemmas.{client_stepped_held, client_heard_held, all_wait}
use Rattle.mama_drive.proofs.SystemLemmas.{with_client, same_client}
use Rattle.mama_drive.proofs.system.System.client_turn.Goals as goal

pub invariant_of-self : goal.invariant_of-self
invariant_of-self g c = with_client _ _ _ _ _ _ _ _ _ _ _ _ c.self.invariant c.args.number c.step.new.self

pub invariant_of-self-2 : goal.invariant_of-self-2
invariant_of-self-2 g c = with_client _ _ _ _ _ _ _ _ _ _ _ _ c.self.invariant c.args.number c.step.new.self

pub returns-clause-step : goal.returns-clause-step
returns-clause-step g c =
    client_stepped_held _ c.args.self.now c.args.number c.index_mut-seat.result.now c.step.new.self (notes_of c.in_ok-outs.outs.items) _ c.self.view_is
    (subst (λ (s : Scene). c.args.number < length s.clients) (sym c.self.view_is) c.requires) c.index_mut-seat.ensures.value c.in_ok-outs.ensures.step (all_wait notes_of c.all.result c.in_ok-outs.outs.items c.all.ensures)

pub returns-clause-clock : goal.returns-clause-clock
returns-clause-clock g c =
    client_heard_held _ c.args.self.now c.args.number c.index_mut-seat.result.now c.step.new.self (notes_of c.in_ok-outs.outs.items) (notes_of (waits c.all.result)) _ _ c.self.view_is
    (subst (λ (s : Scene). c.args.number < length s.clients) (sym c.self.view_is) c.requires) c.index_mut-seat.ensures.value c.in_ok-outs.ensures.step c.in_ok-outs.ensures.clock

pub returns-in_err-outs-clause-err : goal.returns-in_err-outs-clause-err
returns-in_err-outs-clause-err g c =
    on_err c.from_residual.result (same_client _ c.args.self.now c.args.number c.index_mut-seat.result.now c.step.new.self c.self.view_is c.index_mut-seat.ensures.value c.in_err-outs.ensures.err)
