use Rattle.std.proofs.Common.{◌≡◌, ◌↔◌, true, Option, Some, ◌∙◌, ap, sym, subst}
use Rattle.mama_event.specs.declared.to_bridge.BridgeNote.{BridgeNote}
use Rattle.mama_lane.specs.Values.{LaneValue, NoteValue}
use Rattle.mama_posts_services.specs.Bridge.{BridgePostValue, IsBridgeOf, is_over}
use Rattle.mama_posts_services.specs.Service.{HasEnded}
use Rattle.mama_crew.specs.Informed.{bridge_told}
use Rattle.mama_crew.proofs.InformingLemmas.{ended_told, bridge_informed}
use Rattle.mama_crew.proofs.bridge.BridgeSeat.learn.Goals as goal

pub learn-requires-clause-lane : goal.learn-requires-clause-lane
learn-requires-clause-lane g c = ap (λ (v : BridgePostValue). v.service.inlet.taker.lane) c.self.view_is ∙ c.requires.lane ∙ ap (λ (l : LaneValue). l.id) (sym c.to_bridge.ensures)

pub invariant_of-self : goal.invariant_of-self
invariant_of-self g c =
    subst (λ (v : BridgePostValue). (c.self.inside.ended ≡ true) ↔ HasEnded (is_over v.service.shape) v.service) (sym c.learn.ensures.learnt)
    (ended_told c.self.inside.ended (is_over c.self.inside.post.service.shape) c.self.inside.post.service _ c.self.invariant)

pub returns-in-Some-clause-seat : goal.returns-in-Some-clause-seat
returns-in-Some-clause-seat g c = λ script was.
    bridge_informed script c.args.hall.now c.in-Some.note c.args.self.now c.learn.new.self was
    (c.learn.ensures.seat script.shape (subst (IsBridgeOf script.shape) (sym c.self.view_is) was.keeps)) (c.learn.ensures.learnt ∙ ap (bridge_told (Some c.in-Some.note)) c.self.view_is)

pub returns-in-Some-clause-told : goal.returns-in-Some-clause-told
returns-in-Some-clause-told g c = c.learn.ensures.learnt ∙ ap (bridge_told (Some c.in-Some.note)) c.self.view_is ∙ ap (λ (t : Option (NoteValue BridgeNote)). bridge_told t c.args.self.now) (sym c.in-Some.is)
