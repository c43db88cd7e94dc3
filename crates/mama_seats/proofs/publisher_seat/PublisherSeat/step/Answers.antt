use Rattle.std.proofs.Common.{List, ◌++◌, map, ap, sym, subst, ◌∙◌}
use Rattle.mama_event.specs.ToBridge.{note_of}
use Rattle.mama_event.specs.declared.ids.ObjectId.{ObjectId}
use Rattle.mama_event.specs.declared.to_bridge.ToBridge.{ToBridge}
use Rattle.mama_event.specs.declared.to_bridge.BridgeNote.{BridgeNote}
use Rattle.mama_event.specs.ToPublisher.{note_of as publisher_note_of}
use Rattle.mama_plans.specs.Put.{own_tag}
use Rattle.mama_seats.specs.Sender.{Sender, sender_of, IsSenderStep}
use Rattle.mama_seats.proofs.SenderLemmas.{step_with_lane}
use Rattle.mama_seats.proofs.publisher_seat.PublisherSeat.step.Goals as goal

pub returns-clause-step : goal.returns-clause-step
returns-clause-step c =
    let step = c.in_ok-step.ensures.step in
    subst (λ (s : Sender). IsSenderStep s (record (sender_of c.self.inside.part.now c.step.new.self) { lane = map publisher_note_of c.self.inside.lane.items }) (map (note_of own_tag) c.step.new.out.items)) c.self.view_is
    (step_with_lane (sender_of c.self.inside.part.now c.self.inside.state) (sender_of c.self.inside.part.now c.step.new.self) (map (note_of own_tag) c.step.new.out.items) (map publisher_note_of c.self.inside.lane.items)
    (subst (λ (ps : List BridgeNote). IsSenderStep (sender_of c.self.inside.part.now c.self.inside.state) (sender_of c.self.inside.part.now c.step.new.self) ps)
    (sym (step.1 ∙ ap (λ (es : List (ToBridge ObjectId)). map (note_of own_tag) es ++ step.0) c.new-out.ensures)) step.2))
