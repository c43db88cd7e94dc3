use Rattle.std.proofs.Common.{◌≡◌, ◌↔◌, true, Option, Some, IfSome, ◌∙◌, ap, sym, subst}
use Rattle.mama_event.specs.declared.to_publisher.PublisherNote.{PublisherNote}
use Rattle.mama_lane.specs.Values.{NoteValue}
use Rattle.mama_posts_services.specs.Publisher.{PublisherPostValue, IsPublisherOf, HasEnded}
use Rattle.mama_crew.specs.Hall.{IsLaneAt}
use Rattle.mama_crew.specs.Informed.{publisher_told}
use Rattle.mama_crew.proofs.SeatLemmas.{lane_there, lane_is}
use Rattle.mama_crew.proofs.InformingLemmas.{publisher_ended_told, publisher_informed}
use Rattle.mama_crew.proofs.publisher.PublisherSeat.learn.Goals as goal

pub to_publisher-requires : goal.to_publisher-requires
to_publisher-requires g c = lane_there c.args.hall.now.to_publishers c.args.number c.args.self.now.inlet.taker.lane c.requires.lane

pub learn-requires-clause-lane : goal.learn-requires-clause-lane
learn-requires-clause-lane g c =
    ap (λ (v : PublisherPostValue). v.inlet.taker.lane) c.self.view_is ∙ lane_is c.args.hall.now.to_publishers c.args.number c.args.self.now.inlet.taker.lane c.to_publisher.result.now c.requires.lane c.to_publisher.ensures

pub learn-requires-clause-note : goal.learn-requires-clause-note
learn-requires-clause-note g c =
    lane_is c.args.hall.now.to_publishers c.args.number c.in-Some.note.lane c.to_publisher.result.now
    (subst (λ (t : Option (NoteValue PublisherNote)). IfSome t (λ note. IsLaneAt c.args.hall.now.to_publishers c.args.number note.lane)) c.in-Some.is c.requires.note) c.to_publisher.ensures

pub invariant_of-self : goal.invariant_of-self
invariant_of-self g c =
    subst (λ (v : PublisherPostValue). (c.self.inside.ended ≡ true) ↔ HasEnded v) (sym c.learn.ensures.learnt) (publisher_ended_told c.self.inside.ended c.self.inside.post c.in-Some.note c.self.invariant)

pub returns-in-Some-clause-seat : goal.returns-in-Some-clause-seat
returns-in-Some-clause-seat g c = λ script was.
    publisher_informed script c.args.hall.now c.args.number c.in-Some.note c.args.self.now c.learn.new.self was
    (λ part keeps. c.learn.ensures.seat part c.args.number (subst (IsPublisherOf part c.args.number) (sym c.self.view_is) keeps)) (c.learn.ensures.learnt ∙ ap (publisher_told (Some c.in-Some.note)) c.self.view_is)

pub returns-in-Some-clause-told : goal.returns-in-Some-clause-told
returns-in-Some-clause-told g c =
    c.learn.ensures.learnt ∙ ap (publisher_told (Some c.in-Some.note)) c.self.view_is ∙ ap (λ (t : Option (NoteValue PublisherNote)). publisher_told t c.args.self.now) (sym c.in-Some.is)
