use Rattle.std.proofs.Common.{map, refl, subst}
use Rattle.mama_event.specs.declared.to_publisher.PublisherNote.{PublisherNote}
use Rattle.mama_event.specs.declared.to_queue.QueueNote.{QueueNote}
use Rattle.mama_event.specs.ToPublisher.{note_of}
use Rattle.mama_event.specs.ToQueue.{note_of as queue_note_of}
use Rattle.mama_event.specs.ToTimers.{note_of as timers_note_of}
use Rattle.mama_check_order.specs.Numbered.{from_entry}
use Rattle.mama_check_puts.specs.Puts.{one_for, publishers_in, queues_in}
use Rattle.mama_check_puts.specs.Dealing.{Grow, own_tag}
use Rattle.mama_check_puts.proofs.Lists.{on_ok}
use Rattle.mama_check_puts.proofs.BridgeSteps.{to_publisher_dealt, to_queue_dealt, to_timers_dealt}
use Rattle.mama_check_puts.proofs.bridge.deal_one.Goals as goal

pub returns-in-Publisher : goal.returns-in-Publisher
returns-in-Publisher c = rw c.in-Publisher.is
    (on_ok c.deal.result
    (λ grow. to_publisher_dealt c.args.puts.now _ c.args.entry c.in-Publisher.number (note_of c.in-Publisher.event)
    (subst (λ (note : PublisherNote). Grow (publishers_in c.args.puts.now) (map (λ list. list.items) c.deal.new.lists.items) (λ p. from_entry c.args.entry (one_for c.in-Publisher.number note p))) c.publisher_note.ensures grow) refl refl)
    c.deal.ensures)

pub returns-in_ok-note-in-Queue : goal.returns-in_ok-note-in-Queue
returns-in_ok-note-in-Queue c = rw c.in-Queue.is
    (on_ok c.deal-in-Queue.result
    (λ grow. to_queue_dealt c.args.puts.now _ c.args.entry c.in-Queue.number (queue_note_of own_tag c.in-Queue.event)
    (subst (λ (note : QueueNote). Grow (queues_in c.args.puts.now) (map (λ list. list.items) c.deal-in-Queue.new.lists.items) (λ q. from_entry c.args.entry (one_for c.in-Queue.number note q))) c.in_ok-note-in-Queue.ensures grow) refl refl)
    c.deal-in-Queue.ensures)

pub returns-in_ok-push-in-Timers : goal.returns-in_ok-push-in-Timers
returns-in_ok-push-in-Timers c = rw c.in-Timers.is
    (to_timers_dealt c.args.puts.now _ c.args.entry (timers_note_of own_tag c.in-Timers.event)
    (rw (← c.timers_note.ensures) c.in_ok-push-in-Timers.ensures.items) refl refl)
