use Rattle.std.proofs.Common.{ap, map, drop, List, ◌++◌, ◌∙◌}
use Rattle.mama_event.specs.ToBridge.{note_of}
use Rattle.mama_event.specs.ToPublisher.{note_of as publisher_note_of}
use Rattle.mama_event.specs.Publisher.{answer_of}
use Rattle.mama_event.specs.declared.to_bridge.ToBridge.{ToBridge}
use Rattle.mama_event.specs.declared.ids.ObjectId.{ObjectId}
use Rattle.mama_check_puts.specs.Dealing.{own_tag}
use Rattle.mama_check_puts.specs.Sender.{unsent}
use Rattle.mama_check_puts.proofs.SenderSteps.{taken_done, first_answers}
use Rattle.mama_check_puts.proofs.publisher.Sender.take.Goals as goal

pub returns-in_ok-first-in-Ok : goal.returns-in_ok-first-in-Ok
returns-in_ok-first-in-Ok c = λ script journal at.
    let p = c.args.self.now.publisher in
    let event = c.publisher_event.result in
    taken_done c.taking_an_event.ensures script journal p c.take.new.self (unsent c.args.self.now) event c.args.note _ at c.publisher_event.ensures c.in-Ok.ensures.stays
    (first_answers (note_of own_tag) c.take.new.out.items (map (note_of own_tag) (drop 1 c.take.new.out.items)) p.number p.held p.seq (publisher_note_of event) c.in_ok-first-in-Ok.first
    c.in_ok-first-in-Ok.ensures.some c.in_ok-first-in-Ok.ensures.none
    (c.in-Ok.ensures.notes ∙ ap (λ (l : List (ToBridge ObjectId)). map (note_of own_tag) l ++ answer_of p.number p.held p.seq (publisher_note_of event)) c.new-out.ensures))
