use Rattle.std.proofs.Common.{ap, map, subst}
use Rattle.mama_event.specs.declared.to_queue.QueueNote.{QueueNote}
use Rattle.mama_check_order.specs.Numbered.{from_entry}
use Rattle.mama_timer.specs.Out.{out_note}
use Rattle.mama_check_puts.specs.Puts.{one_for, tick_part}
use Rattle.mama_check_puts.specs.Dealing.{Grow, own_tag}
use Rattle.mama_check_puts.proofs.Lists.{none_yet, dealt_more, all_dealt}
use Rattle.mama_check_puts.proofs.timers.deal_all.Goals as goal

pub loop-put-init : goal.loop-put-init
loop-put-init c = none_yet _ _

pub loop-put-preserved : goal.loop-put-preserved
loop-put-preserved c =
    dealt_more tick_part c.args.entry _ (map (λ list. list.items) c.loop-put.lists.items) (map (λ list. list.items) c.deal.new.lists.items) (map (out_note own_tag) c.loop-put.out.items) (map (out_note own_tag) c.take_first.new.self.items)
    (out_note own_tag c.in-Some.put) _ c.loop-put.invariant (ap (map (out_note own_tag)) c.in-Some.ensures.some)
    (subst (λ (note : QueueNote). Grow (map (λ list. list.items) c.loop-put.lists.items) (map (λ list. list.items) c.deal.new.lists.items) (λ n. from_entry c.args.entry (one_for c.in-Some.put.queue note n)))
    c.in_ok-note.ensures c.in_ok-deal.ensures)

pub returns : goal.returns
returns c =
    all_dealt tick_part c.args.entry _ (map (λ list. list.items) c.loop-put.lists.items) (map (out_note own_tag) c.loop-put.out.items) _ c.loop-put.invariant (ap (map (out_note own_tag)) c.in_default.ensures.none)
