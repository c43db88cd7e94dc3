use Rattle.std.specs.Prelude.{map}
use Rattle.std.proofs.Common.{ℕ, List, ◌++◌, ap, ◌∙◌, sym, subst}
use Rattle.mama_dispatch.specs.Journals.{may_come}
use Rattle.mama_event.specs.declared.ids.ObjectId.{ObjectId}
use Rattle.mama_event.specs.declared.order.Order.{Order}
use Rattle.mama_event.specs.declared.to_queue.QueueNote.{QueueNote}
use Rattle.mama_event.specs.ToQueue.{note_of}
use Rattle.mama_rules_queue.specs.Queue.{deeds, queue_puts_at}
use Rattle.mama_event.specs.declared.to_service.ToService.{ToService}
use Rattle.mama_dispatch.specs.Turns.{put_note}
use Rattle.mama_plans.specs.Put.{own_tag}
use Rattle.mama_plans.specs.Orders.{orders_in}
use Rattle.mama_dispatch.specs.Hearing.{brought, ArePlanned}
use Rattle.mama_dispatch.specs.Answering.{AnswersTo}
use Rattle.mama_dispatch.specs.Served.{Served}
use Rattle.mama_dispatch.proofs.KeepLemmas.{comes_at}
use Rattle.mama_seats.specs.Listening.{tag_of, data_of}
use Rattle.mama_seats.proofs.queue_seat.serve.Goals as goal

pub turn-requires : goal.turn-requires
turn-requires c = ap (may_come c.args.serving.now.journal) c.in_ok-event.ensures.noted ∙ c.requires.comes

pub returns-in-Ok-clause-planned : goal.returns-in-Ok-clause-planned
returns-in-Ok-clause-planned c = λ o. c.in-Ok.ensures.planned o (orders_in c.args.plans.now o) 0 (comes_at (orders_in c.args.plans.now) (brought data_of c.in_ok-event.event) c.in_ok-event.ensures.planned o) (c.requires.planned o)

pub returns-in-Ok-clause-puts : goal.returns-in-Ok-clause-puts
returns-in-Ok-clause-puts c =
    let orders : ObjectId → ℕ → List Order = orders_in c.args.plans.now in
    let journal : List (ℕ × QueueNote) = c.args.serving.now.journal in
    c.in-Ok.ensures.puts orders (c.planned_orders_fit.ensures orders (λ o. c.in-Ok.ensures.planned o (orders o) 0 (comes_at (orders_in c.args.plans.now) (brought data_of c.in_ok-event.event) c.in_ok-event.ensures.planned o) (c.requires.planned o)))
    ∙ ap (λ (os : List (ToService ObjectId)). map (put_note own_tag) os ++ queue_puts_at orders journal (c.args.port, note_of tag_of c.in_ok-event.event)) c.new-out.ensures
    ∙ ap (λ (n : QueueNote). queue_puts_at orders journal (c.args.port, n)) c.in_ok-event.ensures.noted

pub returns-in-Ok-clause-fits : goal.returns-in-Ok-clause-fits
returns-in-Ok-clause-fits c =
    c.planned_orders_fit.ensures (orders_in c.args.plans.now)
    (λ o. c.in-Ok.ensures.planned o (orders_in c.args.plans.now o) 0 (comes_at (orders_in c.args.plans.now) (brought data_of c.in_ok-event.event) c.in_ok-event.ensures.planned o) (c.requires.planned o))

pub returns-in-Ok-clause-answer : goal.returns-in-Ok-clause-answer
returns-in-Ok-clause-answer c =
    let orders : ObjectId → ℕ → List Order = orders_in c.args.plans.now in
    let journal : List (ℕ × QueueNote) = c.args.serving.now.journal in
    subst (λ (n : QueueNote). AnswersTo data_of orders c.args.serving.now.seats journal (deeds orders journal) n c.in-Ok.turn) c.in_ok-event.ensures.noted
    (c.in-Ok.ensures.answer orders (c.planned_orders_fit.ensures orders (λ o. c.in-Ok.ensures.planned o (orders o) 0 (comes_at (orders_in c.args.plans.now) (brought data_of c.in_ok-event.event) c.in_ok-event.ensures.planned o) (c.requires.planned o))))

pub returns-in-Err-clause-planned : goal.returns-in-Err-clause-planned
returns-in-Err-clause-planned c = subst (λ (s : Served). ArePlanned (orders_in c.args.plans.now) s.seats) (sym c.in-Err.ensures.err) c.requires.planned
