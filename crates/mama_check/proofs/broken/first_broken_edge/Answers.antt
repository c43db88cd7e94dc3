use Rattle.std.proofs.Common.{List, length, map, ap, sym, subst}
use Rattle.std.specs.Prelude.{Option}
use Rattle.std.specs.Global.{Vec}
use Rattle.mama_event.specs.Ports.{queues_of}
use Rattle.mama_check.specs.declared.verdict.Actor.{Actor}
use Rattle.mama_check.specs.Rules.{KeepsPublisherEdge, KeepsBridgeEdges, KeepsTimersEdges, KeepsQueueEdges}
use Rattle.mama_check.specs.Verdict.{IsBroken, publishers, bridge, timers, queues}
use Rattle.mama_check_order.specs.declared.order.Need.{Need}
use Rattle.mama_check.proofs.BrokenLemmas.{first_at, none_breaks, not_whole, if_none, if_true}
use Rattle.mama_check.proofs.Causes.{are_all_needs}
use Rattle.mama_check.proofs.broken.first_broken_edge.Goals as goal

pub returns-in-Some-clause-broken : goal.returns-in-Some-clause-broken
returns-in-Some-clause-broken c =
    let script = c.args.script.now in
    let run = c.args.run.now in
    subst (λ (a : Actor). IsBroken script run 3 a) (sym c.publisher_of.ensures)
    (publishers c.in-Some.p c.requires.lines.moments c.requires.lines.lines
    (first_at (KeepsPublisherEdge script run) (length script.publishers) c.in_ok-p.field-0 c.in-Some.p c.in-Some.is c.in_ok-p.ensures.first))

pub returns-then-not-branch-clause-broken : goal.returns-then-not-branch-clause-broken
returns-then-not-branch-clause-broken c =
    let script = c.args.script.now in
    let run = c.args.run.now in
    bridge c.requires.lines.moments c.requires.lines.lines
    (none_breaks (KeepsPublisherEdge script run) (length script.publishers) c.in_ok-p.field-0 c.in_default.not-Some c.in_ok-p.ensures.first)
    (not_whole c.in_ok-add_bridge.field-0 (KeepsBridgeEdges script run) c.in_ok-add_bridge.ensures.whole.1 c.if-not-branch.true)

pub returns-then-not-branch-2-clause-broken : goal.returns-then-not-branch-2-clause-broken
returns-then-not-branch-2-clause-broken c =
    let script = c.args.script.now in
    let run = c.args.run.now in
    timers c.requires.lines.moments c.requires.lines.lines
    (none_breaks (KeepsPublisherEdge script run) (length script.publishers) c.in_ok-p.field-0 c.in_default.not-Some c.in_ok-p.ensures.first)
    (c.in_ok-add_bridge.ensures.whole.0 c.if-not-branch.false)
    (not_whole c.in_ok-add_timers.field-0 (KeepsTimersEdges script run) c.in_ok-add_timers.ensures.whole.1 c.if-not-branch-2.true)

pub returns-in-Some-2-clause-broken : goal.returns-in-Some-2-clause-broken
returns-in-Some-2-clause-broken c =
    let script = c.args.script.now in
    let run = c.args.run.now in
    subst (λ (a : Actor). IsBroken script run 3 a) (sym c.queue_of.ensures)
    (queues c.in-Some-2.q c.requires.lines.moments c.requires.lines.lines
    (none_breaks (KeepsPublisherEdge script run) (length script.publishers) c.in_ok-p.field-0 c.in_default.not-Some c.in_ok-p.ensures.first)
    (c.in_ok-add_bridge.ensures.whole.0 c.if-not-branch.false)
    (c.in_ok-add_timers.ensures.whole.0 c.if-not-branch-2.false)
    (first_at (KeepsQueueEdges script run) (queues_of script.shape) c.in_ok-q.field-0 c.in-Some-2.q c.in-Some-2.is c.in_ok-q.ensures.first))

pub returns-clause-needs : goal.returns-clause-needs
returns-clause-needs c =
    let g = λ (v : Vec (Option Need)). v.items in
    are_all_needs c.args.script.now c.args.run.now (map g c.args.needs.now.items) (map g c.add_clients.new.needs.items) (map g c.add_publishers.new.needs.items) (map g c.add_bridge.new.needs.items)
    (map g c.add_timers.new.needs.items) (map g c.add_queues.new.needs.items) c.requires.orderly.shaped
    (ap (λ (vs : List (Vec (Option Need))). map g vs) c.requires.none) c.in_ok-add_clients.ensures
    (if_none c.in_ok-p.field-0 _ c.in_default.not-Some c.in_ok-p.ensures.needs)
    (if_true c.in_ok-add_bridge.field-0 _ c.if-not-branch.false c.in_ok-add_bridge.ensures.needs)
    (if_true c.in_ok-add_timers.field-0 _ c.if-not-branch-2.false c.in_ok-add_timers.ensures.needs)
    (if_none c.in_ok-q.field-0 _ c.in_default-2.not-Some c.in_ok-q.ensures.needs)
