use Rattle.std.proofs.Common.{◌≡◌, ◌↔◌, true, Option, Some, ◌∙◌, ap, sym, subst}
use Rattle.mama_event.specs.declared.to_timers.TimersNote.{TimersNote}
use Rattle.mama_lane.specs.Values.{LaneValue, NoteValue}
use Rattle.mama_posts_services.specs.Timers.{TimersPostValue, IsTimersOf, is_over}
use Rattle.mama_posts_services.specs.Service.{HasEnded}
use Rattle.mama_crew.specs.Informed.{timers_told}
use Rattle.mama_crew.proofs.InformingLemmas.{ended_told, timers_informed}
use Rattle.mama_crew.proofs.timers.TimersSeat.learn.Goals as goal

pub learn-requires-clause-lane : goal.learn-requires-clause-lane
learn-requires-clause-lane g c = ap (λ (v : TimersPostValue). v.service.inlet.taker.lane) c.self.view_is ∙ c.requires.lane ∙ ap (λ (l : LaneValue). l.id) (sym c.to_timers.ensures)

pub invariant_of-self : goal.invariant_of-self
invariant_of-self g c =
    subst (λ (v : TimersPostValue). (c.self.inside.ended ≡ true) ↔ HasEnded (is_over v.service.shape) v.service) (sym c.learn.ensures.learnt)
    (ended_told c.self.inside.ended (is_over c.self.inside.post.service.shape) c.self.inside.post.service _ c.self.invariant)

pub returns-in-Some-clause-seat : goal.returns-in-Some-clause-seat
returns-in-Some-clause-seat g c = λ script was.
    timers_informed script c.args.hall.now c.in-Some.note c.args.self.now c.learn.new.self was
    (c.learn.ensures.seat script.shape (subst (IsTimersOf script.shape) (sym c.self.view_is) was.keeps)) (c.learn.ensures.learnt ∙ ap (timers_told (Some c.in-Some.note)) c.self.view_is)

pub returns-in-Some-clause-told : goal.returns-in-Some-clause-told
returns-in-Some-clause-told g c = c.learn.ensures.learnt ∙ ap (timers_told (Some c.in-Some.note)) c.self.view_is ∙ ap (λ (t : Option (NoteValue TimersNote)). timers_told t c.args.self.now) (sym c.in-Some.is)
