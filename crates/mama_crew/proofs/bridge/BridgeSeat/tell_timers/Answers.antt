use Rattle.std.proofs.Common.{◌≡◌, ◌↔◌, true, ◌∙◌, ap, sym, subst}
use Rattle.mama_lane.specs.Values.{LaneValue, note_of_port}
use Rattle.mama_posts_services.specs.Bridge.{BridgePostValue, is_over}
use Rattle.mama_posts_services.specs.Service.{HasEnded}
use Rattle.mama_ends.proofs.Answered.{if_ok}
use Rattle.mama_crew.proofs.bridge.BridgeSeat.tell_timers.Goals as goal

pub tell_timers-requires : goal.tell_timers-requires
tell_timers-requires g c = record { timers = ap (λ (v : BridgePostValue). v.ports.timers.lane) c.self.view_is ∙ c.requires ∙ ap (λ (l : LaneValue). l.id) (sym c.to_timers.ensures) }

pub invariant_of-self : goal.invariant_of-self
invariant_of-self g c = subst (λ (v : BridgePostValue). (c.self.inside.ended ≡ true) ↔ HasEnded (is_over v.service.shape) v.service) (sym c.tell_timers.ensures.same) c.self.invariant

pub returns-clause-note : goal.returns-clause-note
returns-clause-note g c =
    if_ok (λ note. note ≡ note_of_port c.self.inside.post.ports.timers) (λ note. note ≡ note_of_port c.args.self.now.ports.timers) c.tell_timers.result
    (λ note is. is ∙ ap (λ (v : BridgePostValue). note_of_port v.ports.timers) c.self.view_is) c.tell_timers.ensures.note

pub returns-clause-same : goal.returns-clause-same
returns-clause-same g c = c.tell_timers.ensures.same ∙ c.self.view_is
