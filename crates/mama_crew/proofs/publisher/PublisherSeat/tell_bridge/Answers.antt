use Rattle.std.proofs.Common.{◌≡◌, ◌↔◌, true, ◌∙◌, ap, sym, subst}
use Rattle.mama_lane.specs.Values.{LaneValue, note_of_port}
use Rattle.mama_posts_services.specs.Publisher.{PublisherPostValue, HasEnded}
use Rattle.mama_ends.proofs.Answered.{if_ok}
use Rattle.mama_crew.proofs.publisher.PublisherSeat.tell_bridge.Goals as goal

pub tell_bridge-requires : goal.tell_bridge-requires
tell_bridge-requires g c = ap (λ (v : PublisherPostValue). v.port.lane) c.self.view_is ∙ c.requires ∙ ap (λ (l : LaneValue). l.id) (sym c.to_bridge.ensures)

pub invariant_of-self : goal.invariant_of-self
invariant_of-self g c = subst (λ (v : PublisherPostValue). (c.self.inside.ended ≡ true) ↔ HasEnded v) (sym c.tell_bridge.ensures.same) c.self.invariant

pub returns-clause-note : goal.returns-clause-note
returns-clause-note g c =
    if_ok (λ note. note ≡ note_of_port c.self.inside.post.port) (λ note. note ≡ note_of_port c.args.self.now.port) c.tell_bridge.result
    (λ note is. is ∙ ap (λ (v : PublisherPostValue). note_of_port v.port) c.self.view_is) c.tell_bridge.ensures.note

pub returns-clause-same : goal.returns-clause-same
returns-clause-same g c = c.tell_bridge.ensures.same ∙ c.self.view_is
