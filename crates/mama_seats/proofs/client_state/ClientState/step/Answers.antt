use Rattle.std.proofs.Common.{List, [], ◌++◌, ap, sym, ◌∙◌, append-nil}
use Rattle.mama_event.specs.declared.ids.ObjectId.{ObjectId}
use Rattle.mama_event.specs.declared.to_service.ToService.{ToService}
use Rattle.mama_plans.specs.Put.{notes_of}
use Rattle.mama_seats.specs.Stand.{Walk, stand_of}
use Rattle.mama_seats.specs.Said.{notes_in}
use Rattle.mama_seats.proofs.StandLemmas.{over_step, pause_moves_on}
use Rattle.mama_seats.proofs.ReadingLemmas.{over_reads, pause_reads_on}
use Rattle.mama_seats.proofs.client_state.ClientState.step.Goals as goal

pub returns-then-self-clause-step : goal.returns-then-self-clause-step
returns-then-self-clause-step g c =
    ([], sym (append-nil (notes_of c.args.out.now.items)), over_step (stand_of c.args.lines.now c.args.self.now) (ap (λ (w : Walk). w.over) (sym c.self.view_is) ∙ c.if-self.true))

pub returns-then-self-clause-clock : goal.returns-then-self-clause-clock
returns-then-self-clause-clock g c = over_reads _ (stand_of c.args.lines.now c.args.self.now) (ap (λ (w : Walk). w.over) (sym c.self.view_is) ∙ c.if-self.true)

pub returns-then-self-gt0-clause-step : goal.returns-then-self-gt0-clause-step
returns-then-self-gt0-clause-step g c =
    ([], sym (append-nil (notes_of c.args.out.now.items)), pause_moves_on _ (stand_of c.args.lines.now c.args.self.now) (ap (stand_of c.args.lines.now) c.self.view_is) c.if-self.false c.if-self-gt0.true)

pub returns-then-self-gt0-clause-clock : goal.returns-then-self-gt0-clause-clock
returns-then-self-gt0-clause-clock g c = pause_reads_on _ _ (stand_of c.args.lines.now c.args.self.now) (ap (stand_of c.args.lines.now) c.self.view_is) c.if-self.false c.if-self-gt0.true

pub returns-clause-step : goal.returns-clause-step
returns-clause-step g c = (
  notes_in c.in_ok-said.said,
  c.lay.ensures ∙ ap (λ (es : List (ToService ObjectId)). notes_of es ++ notes_in c.in_ok-said.said) c.reserve.ensures.items,
  c.in_ok-said.ensures.step,
)
