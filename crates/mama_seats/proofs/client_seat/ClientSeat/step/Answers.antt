use Rattle.std.proofs.Common.{List, ◌++◌, ap, sym, subst, ◌∙◌}
use Rattle.mama_event.specs.declared.ids.ObjectId.{ObjectId}
use Rattle.mama_event.specs.declared.to_service.ToService.{ToService}
use Rattle.mama_rules_queue.specs.Queue.{QueuePut}
use Rattle.mama_plans.specs.Put.{notes_of}
use Rattle.mama_seats.specs.Stand.{Stand, stand_of, IsStep, IsReading}
use Rattle.mama_seats.proofs.client_seat.ClientSeat.step.Goals as goal

pub returns-clause-step : goal.returns-clause-step
returns-clause-step g c =
    let step = c.in_ok-step.ensures.step in
    subst (λ (s : Stand). IsStep s (stand_of c.self.inside.lines.now c.step.new.self) (notes_of c.step.new.out.items)) c.self.view_is
    (subst (λ (ps : List QueuePut). IsStep (stand_of c.self.inside.lines.now c.self.inside.state) (stand_of c.self.inside.lines.now c.step.new.self) ps)
    (sym (step.1 ∙ ap (λ (es : List (ToService ObjectId)). notes_of es ++ step.0) c.new-out.ensures)) step.2)

pub returns-clause-clock : goal.returns-clause-clock
returns-clause-clock g c = subst (λ (s : Stand). IsReading (g.C.Clock.left c.args.clock.now) (g.C.Clock.left c.step.new.clock) s (stand_of c.self.inside.lines.now c.step.new.self)) c.self.view_is c.in_ok-step.ensures.clock
