use Rattle.std.proofs.Common.{List, [], ◌++◌, map, ap, sym, subst, ◌∙◌, append-nil}
use Rattle.mama_event.specs.ToBridge.{note_of}
use Rattle.mama_script.specs.declared.publisher.PublisherLine.{PublisherLine}
use Rattle.mama_seats.specs.Sender.{Progress, sender_of, sender_in, IsSeatedIn, IsSenderStep}
use Rattle.mama_seats.specs.Said.{notes_sent}
use Rattle.mama_seats.proofs.SenderLemmas.{sender_over, sender_pauses_on}
use Rattle.mama_seats.proofs.publisher_state.PublisherState.step.Goals as goal

pub returns-then-self-clause-step : goal.returns-then-self-clause-step
returns-then-self-clause-step g c = (
  [],
  sym (append-nil (map (note_of g.M.Tagged.tagged) c.args.out.now.items)),
  sender_over (sender_of c.args.part.now c.args.self.now) (ap (λ (w : Progress). w.over) (sym c.self.view_is) ∙ c.if-self.true),
)

pub returns-then-self-gt0-clause-step : goal.returns-then-self-gt0-clause-step
returns-then-self-gt0-clause-step g c = (
  [],
  sym (append-nil (map (note_of g.M.Tagged.tagged) c.args.out.now.items)),
  sender_pauses_on _ (sender_of c.args.part.now c.args.self.now) (ap (sender_of c.args.part.now) c.self.view_is) c.if-self.false c.if-self-gt0.true,
)

pub go_on-requires-clause-seated : goal.go_on-requires-clause-seated
go_on-requires-clause-seated g c =
    subst (λ (ls : List PublisherLine). IsSeatedIn c.args.part.now.base ls c.args.self.now) (sym c.as_slice.ensures) c.requires

pub returns-clause-step : goal.returns-clause-step
returns-clause-step g c = (
  notes_sent c.in_ok-sent.sent,
  c.lay.ensures ∙ ap (λ es. map (note_of g.M.Tagged.tagged) es ++ notes_sent c.in_ok-sent.sent) c.reserve.ensures.items,
  subst (λ (ls : List PublisherLine). IsSenderStep (sender_in c.args.part.now.base ls c.args.self.now) (sender_in c.args.part.now.base ls c.go_on.new.self) (notes_sent c.in_ok-sent.sent)) c.as_slice.ensures c.in_ok-sent.ensures.step,
)

pub returns-clause-seated : goal.returns-clause-seated
returns-clause-seated g c = subst (λ (ls : List PublisherLine). IsSeatedIn c.args.part.now.base ls c.go_on.new.self) c.as_slice.ensures c.go_on.ensures.seated
