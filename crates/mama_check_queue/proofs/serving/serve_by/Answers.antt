use Rattle.std.proofs.Common.{List, subst, arith}
use Rattle.mama_rules_rounds.specs.Client.{Planned}
use Rattle.mama_plans.specs.Orders.{orders_in}
use Rattle.mama_check_queue.specs.Replay.{Serves}
use Rattle.mama_check_queue.proofs.ServeLemmas.{served_none, served_more, served_kept, fins_within, queue_of}
use Rattle.mama_check_queue.proofs.serving.serve_by.Goals as goal

pub loop-entry-init : goal.loop-entry-init
loop-entry-init c =
    served_none (queue_of c.args.plans.now c.args.groups.now c.args.watches.now c.args.journal.now) c.new.result c.new-2.result c.in_ok-lists.lists.groups c.in_ok-lists.lists.watches.watches
    c.new.ensures c.new-2.ensures c.in_ok-lists.ensures.groups c.in_ok-lists.ensures.watches

pub counted-fins-requires : goal.counted-fins-requires
counted-fins-requires c =
    let so_far = c.loop-entry in
    omega (
      arith,
      c.loop-entry-test.true,
      fins_within (queue_of c.args.plans.now c.args.groups.now c.args.watches.now c.args.journal.now) so_far.entry so_far.fins so_far.replay.objects so_far.replay.puts so_far.lists.groups so_far.lists.watches.watches
          c.loop-entry-test.true so_far.invariant,
    )

pub loop-entry-preserved : goal.loop-entry-preserved
loop-entry-preserved c =
    let e = c.index-journal-entry.result in
    let so_far = c.loop-entry in
    served_more (queue_of c.args.plans.now c.args.groups.now c.args.watches.now c.args.journal.now) c.requires.listed.watches
    so_far.entry so_far.fins c.counted-fins.result e so_far.replay.objects c.serve.new.self.objects so_far.replay.puts c.serve.new.self.puts c.put_end.new.self c.put_wish.new.self
    so_far.lists.groups c.follow.new.self.groups so_far.lists.watches.watches c.follow.new.self.watches.watches c.called-before.result _
    c.loop-entry-test.true c.index-journal-entry.is so_far.invariant
    (subst (λ (ps : List Planned). Serves (orders_in ps) e.1 so_far.entry so_far.replay.objects c.serve.new.self.objects so_far.replay.puts c.serve.new.self.puts) c.requires.book c.in_ok-serve.ensures)
    c.in_ok-put_end.ensures c.called-before.ensures c.in_ok-wish.ensures c.in_ok-put_wish.ensures c.counted-fins.ensures

pub invariant_of-result : goal.invariant_of-result
invariant_of-result c =
    served_kept (queue_of c.args.plans.now c.args.groups.now c.args.watches.now c.args.journal.now) c.loop-entry.entry c.loop-entry.fins c.loop-entry.replay.objects c.loop-entry.replay.puts
    c.loop-entry.lists.groups c.loop-entry.lists.watches.watches c.into_parts-heard.result.0.items c.into_parts-heard.result.1.items c.loop-entry-test.false c.loop-entry.invariant c.into_parts-heard.ensures.groups c.into_parts-heard.ensures.watches
