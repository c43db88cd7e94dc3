use Rattle.std.proofs.Common.{map, take, subst, List, ℕ}
use Rattle.mama_event.specs.Ports.{queues_of}
use Rattle.mama_event.specs.declared.to_timers.TimersNote.{TimersNote}
use Rattle.mama_rules_services.specs.Timers.{timers_puts_at}
use Rattle.mama_timer.specs.Out.{out_note}
use Rattle.mama_check_puts.specs.Puts.{AreLists, tick_part, timers_put_to}
use Rattle.mama_check_puts.specs.Dealing.{own_tag}
use Rattle.std.proofs.lemmas.List.{take_all}
use Rattle.mama_check_puts.proofs.Lists.{next_dealt}
use Rattle.mama_check_puts.proofs.TimerSteps.{service_next, service_puts}
use Rattle.mama_check_puts.proofs.timers.puts_of_timers.Goals as goal

pub loop-entry-preserved : goal.loop-entry-preserved
loop-entry-preserved c = record {
  service = service_next c.args.shape.now c.args.journal.now c.loop-entry.entry _ c.loop-entry.timers c.taken.new.timers c.loop-entry-test.true c.loop-entry.invariant.service c.in_ok-out.ensures.journal;
  lists = next_dealt tick_part (timers_puts_at c.args.shape.now) c.args.journal.now c.loop-entry.entry _ (queues_of c.args.shape.now) (map (λ list. list.items) c.loop-entry.lists.items) (map (λ list. list.items) c.deal_all.new.lists.items) (map (out_note own_tag) c.in_ok-out.out.items)
      c.loop-entry-test.true
      (service_puts c.args.shape.now (take c.loop-entry.entry c.args.journal.now) _ c.loop-entry.timers _ c.loop-entry.invariant.service c.in_ok-out.ensures.puts)
      c.loop-entry.invariant.lists c.in_ok-deal_all.ensures;
}

pub returns : goal.returns
returns c =
    subst (λ (es : List (ℕ × TimersNote)). AreLists (map (λ list. list.items) c.loop-entry.lists.items) (queues_of c.args.shape.now) (timers_put_to c.args.shape.now es))
    (take_all c.loop-entry.entry c.args.journal.now c.loop-entry-test.false) c.loop-entry.invariant.lists
