use Rattle.std.proofs.Common.{ℕ, List, arith, ap, sym, subst, ◌∙◌}
use Rattle.std.proofs.lemmas.List.{take_all}
use Rattle.mama_event.specs.declared.group.GroupRow.{GroupRow}
use Rattle.mama_event.specs.declared.watch.WatchRow.{WatchRow}
use Rattle.mama_event.specs.declared.to_queue.QueueNote.{QueueNote}
use Rattle.mama_check_queue.specs.Served.{ServedData}
use Rattle.mama_check_queue.specs.Listed.{AreListed}
use Rattle.mama_check_queue.proofs.ServeLemmas.{items_of, queue_of, all_none, all_more, listed_at}
use Rattle.mama_check_queue.proofs.serving.serve_all.Goals as goal

pub loop-queue-init : goal.loop-queue-init
loop-queue-init c = all_none c.args.plans.now c.args.journals.now c.args.groups.now c.args.watches.now c.new-all.result.items c.new-all.ensures.items

pub serve_by-requires-clause-listed : goal.serve_by-requires-clause-listed
serve_by-requires-clause-listed c =
    subst (λ (rows : List (ℕ × GroupRow)). AreListed rows c.deref-in-loop-queue.result.now) (sym c.deref.ensures.value)
    (subst (λ (rows : List (ℕ × WatchRow)). AreListed c.index-groups-queue.result.items rows) (sym c.deref-in-loop-queue.ensures.value)
    (listed_at c.args.groups.now c.args.watches.now c.loop-queue.queue c.index-groups-queue.result c.index-watches-queue.result (omega arith) (omega arith) c.index-groups-queue.is c.index-watches-queue.is c.requires.listed))

pub loop-queue-preserved : goal.loop-queue-preserved
loop-queue-preserved c =
    let of_queue : List (ℕ × GroupRow) → List (ℕ × WatchRow) → List (ℕ × QueueNote) → ServedData = queue_of c.args.plans.now in
    all_more c.args.plans.now c.args.journals.now c.args.groups.now c.args.watches.now c.loop-queue.queue c.index-journals-queue.result c.index-groups-queue.result c.index-watches-queue.result
    c.loop-queue.all.items c.push.new.self.items c.in_ok-served.served (omega arith) c.requires.groups c.requires.watches
    c.index-journals-queue.is c.index-groups-queue.is c.index-watches-queue.is c.loop-queue.invariant
    (c.in_ok-served.ensures
    ∙ ap (λ (rows : List (ℕ × GroupRow)). of_queue rows c.deref-in-loop-queue.result.now c.deref-in-loop-queue-2.result.now) c.deref.ensures.value
    ∙ ap (λ (rows : List (ℕ × WatchRow)). of_queue c.index-groups-queue.result.items rows c.deref-in-loop-queue-2.result.now) c.deref-in-loop-queue.ensures.value
    ∙ ap (λ (journal : List (ℕ × QueueNote)). of_queue c.index-groups-queue.result.items c.index-watches-queue.result.items journal) c.deref-in-loop-queue-2.ensures.value)
    c.in_ok-push.ensures.items

pub returns-clause-journals : goal.returns-clause-journals
returns-clause-journals c = c.loop-queue.invariant.each ∙ ap items_of (take_all c.loop-queue.queue c.args.journals.now (omega arith))

pub returns-clause-objects : goal.returns-clause-objects
returns-clause-objects c = c.loop-queue.invariant.own

pub returns-clause-groups : goal.returns-clause-groups
returns-clause-groups c = c.loop-queue.invariant.of_groups ∙ ap items_of (take_all c.loop-queue.queue c.args.groups.now (omega arith))

pub returns-clause-watches : goal.returns-clause-watches
returns-clause-watches c = c.loop-queue.invariant.of_watches ∙ ap items_of (take_all c.loop-queue.queue c.args.watches.now (omega arith))
