use Rattle.std.proofs.Common.{map, subst, List, ℕ, ◌≡◌}
use Rattle.std.proofs.lemmas.List.{take_all}
use Rattle.mama_event.specs.Ports.{publishers_of, queues_of}
use Rattle.mama_event.specs.declared.to_bridge.BridgeNote.{BridgeNote}
use Rattle.mama_rules_services.specs.Bridge.{bridge_puts_at}
use Rattle.mama_rules_rounds.specs.Setting.{publisher_part, queue_part}
use Rattle.mama_bridge.specs.Outs.{put_note}
use Rattle.mama_check_puts.specs.Puts.{AreLists, bridge_put_to_publisher, bridge_put_to_queue, bridge_put_to_timers, publishers_in, queues_in}
use Rattle.mama_check_puts.specs.Dealing.{own_tag}
use Rattle.mama_check_puts.proofs.Lists.{next_dealt}
use Rattle.mama_check_puts.proofs.BridgeSteps.{bridge_next, bridge_puts_are, timers_next}
use Rattle.mama_check_puts.proofs.bridge.puts_of_bridge.Goals as goal

pub loop-entry-preserved : goal.loop-entry-preserved
loop-entry-preserved c =
    let e = c.index-journal-entry.result in
    let puts = bridge_puts_are c.args.shape.now c.args.journal.now c.loop-entry.entry e c.loop-entry.bridge (map (put_note own_tag) c.in_ok-out.out.items) c.index-journal-entry.is c.loop-entry.invariant.bridge c.in_ok-out.ensures.puts in
    record {
      bridge = bridge_next c.args.shape.now c.args.journal.now c.loop-entry.entry e c.loop-entry.bridge c.taken.new.bridge c.loop-entry-test.true c.index-journal-entry.is c.loop-entry.invariant.bridge c.in_ok-out.ensures.journal;
      publishers = next_dealt publisher_part (bridge_puts_at c.args.shape.now) c.args.journal.now c.loop-entry.entry e (publishers_of c.args.shape.now) (publishers_in c.loop-entry.puts) (publishers_in c.deal_all.new.puts)
          (map (put_note own_tag) c.in_ok-out.out.items) c.loop-entry-test.true puts c.loop-entry.invariant.publishers c.in_ok-deal_all.ensures.publishers;
      queues = next_dealt queue_part (bridge_puts_at c.args.shape.now) c.args.journal.now c.loop-entry.entry e (queues_of c.args.shape.now) (queues_in c.loop-entry.puts) (queues_in c.deal_all.new.puts)
          (map (put_note own_tag) c.in_ok-out.out.items) c.loop-entry-test.true puts c.loop-entry.invariant.queues c.in_ok-deal_all.ensures.queues;
      timers = timers_next c.args.shape.now c.args.journal.now c.loop-entry.entry e c.loop-entry.puts.to_timers.items c.deal_all.new.puts.to_timers.items (map (put_note own_tag) c.in_ok-out.out.items)
          c.loop-entry-test.true puts c.loop-entry.invariant.timers c.in_ok-deal_all.ensures.timers;
    }

pub returns-clause-publishers : goal.returns-clause-publishers
returns-clause-publishers c =
    subst (λ (es : List (ℕ × BridgeNote)). AreLists (publishers_in c.loop-entry.puts) (publishers_of c.args.shape.now) (bridge_put_to_publisher c.args.shape.now es))
    (take_all c.loop-entry.entry c.args.journal.now c.loop-entry-test.false) c.loop-entry.invariant.publishers

pub returns-clause-queues : goal.returns-clause-queues
returns-clause-queues c =
    subst (λ (es : List (ℕ × BridgeNote)). AreLists (queues_in c.loop-entry.puts) (queues_of c.args.shape.now) (bridge_put_to_queue c.args.shape.now es))
    (take_all c.loop-entry.entry c.args.journal.now c.loop-entry-test.false) c.loop-entry.invariant.queues

pub returns-clause-timers : goal.returns-clause-timers
returns-clause-timers c =
    subst (λ (es : List (ℕ × BridgeNote)). c.loop-entry.puts.to_timers.items ≡ bridge_put_to_timers c.args.shape.now es)
    (take_all c.loop-entry.entry c.args.journal.now c.loop-entry-test.false) c.loop-entry.invariant.timers
