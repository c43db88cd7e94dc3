use Rattle.std.proofs.Common.{Option, Some, IfSome, ◌∙◌, ap, sym, subst}
use Rattle.mama_event.specs.declared.to_queue.QueueNote.{QueueNote}
use Rattle.mama_lane.specs.Values.{NoteValue}
use Rattle.mama_crew.specs.Hall.{IsLaneAt}
use Rattle.mama_crew.specs.Informed.{queue_told}
use Rattle.mama_crew.proofs.SeatLemmas.{lane_there, lane_is}
use Rattle.mama_crew.proofs.InformingLemmas.{queue_informed}
use Rattle.mama_crew.proofs.queue.queue_learns.Goals as goal

pub to_queue-requires : goal.to_queue-requires
to_queue-requires g c = lane_there c.args.hall.now.to_queues c.args.number c.args.post.now.inlet.taker.lane c.requires.lane

pub learn-requires-clause-taker : goal.learn-requires-clause-taker
learn-requires-clause-taker g c = lane_is c.args.hall.now.to_queues c.args.number c.args.post.now.inlet.taker.lane c.to_queue.result.now c.requires.lane c.to_queue.ensures

pub learn-requires-clause-note : goal.learn-requires-clause-note
learn-requires-clause-note g c =
    lane_is c.args.hall.now.to_queues c.args.number c.in-Some.note.lane c.to_queue.result.now
    (subst (λ (t : Option (NoteValue QueueNote)). IfSome t (λ note. IsLaneAt c.args.hall.now.to_queues c.args.number note.lane)) c.in-Some.is c.requires.note) c.to_queue.ensures

pub returns-in-Some-clause-seat : goal.returns-in-Some-clause-seat
returns-in-Some-clause-seat g c = λ script was. queue_informed script c.args.hall.now c.args.number c.in-Some.note c.args.post.now c.learn.new.self was c.learn.ensures

pub returns-in-Some-clause-told : goal.returns-in-Some-clause-told
returns-in-Some-clause-told g c = c.learn.ensures ∙ ap (λ (t : Option (NoteValue QueueNote)). queue_told t c.args.post.now) (sym c.in-Some.is)
