use Rattle.std.proofs.Common.{List, ◌+◌, take, drop, sym, subst, true≢false}
use Rattle.std.specs.Prelude.{Option}
use Rattle.mama_check_order.specs.declared.order.Need.{Need}
use Rattle.mama_check_order.proofs.SenderWalk.{IsHeard, heard_at, stuck_at}
use Rattle.mama_check_order.proofs.sender.needs_of_sender.Goals as goal

pub returns-in-None-clause-whole : goal.returns-in-None-clause-whole
returns-in-None-clause-whole c = (
  λ e. absurd (true≢false (sym e)),
  λ w. absurd (stuck_at c.args.actor c.args.list.now c.args.journal.now c.loop-entry.entry-index c.entry-item.result c.loop-entry.left.now c.loop-entry.needs.items c.loop-entry-test.true c.entry-item.is c.loop-entry.invariant c.in-None.ensures.none w),
)

pub loop-entry-preserved : goal.loop-entry-preserved
loop-entry-preserved c =
    subst (λ (needs : List (Option Need)). IsHeard c.args.actor c.args.list.now c.args.journal.now (take (c.loop-entry.entry-index + 1) c.args.journal.now) (drop (c.loop-entry.entry-index + 1) c.args.journal.now) c.in-Some.rest.now needs)
    (sym c.in_ok-push-in-Some.ensures.items)
    (heard_at c.args.actor c.args.list.now c.args.journal.now c.loop-entry.entry-index c.entry-item.result c.loop-entry.left.now c.loop-entry.needs.items c.in-Some.need c.in-Some.rest.now c.loop-entry-test.true c.entry-item.is c.loop-entry.invariant c.in-Some.ensures.next)
