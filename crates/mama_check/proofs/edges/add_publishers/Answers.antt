use Rattle.std.specs.Prelude.{Option}
use Rattle.std.proofs.Common.{◌<◌, List, length, map, ap, subst, arith, below_more}
use Rattle.std.specs.Global.{Vec}
use Rattle.mama_script.specs.declared.publisher.PublisherPart.{PublisherPart}
use Rattle.mama_check_order.specs.declared.order.Need.{Need}
use Rattle.mama_check_queue.proofs.Options.{some_is}
use Rattle.mama_check.specs.Rules.{KeepsPublisherEdge}
use Rattle.mama_check.specs.Causal.{publisher_needs}
use Rattle.mama_check.proofs.BrokenLemmas.{found_keeps, none_keeps}
use Rattle.mama_check.proofs.Causes.{added_to}
use Rattle.mama_check.proofs.edges.add_publishers.Goals as goal

pub loop-p-preserved : goal.loop-p-preserved
loop-p-preserved c =
    let script = c.args.script.now in
    let run = c.args.run.now in
    let g = λ (v : Vec (Option Need)). v.items in
    record {
      kept = below_more _ _ c.loop-p.invariant.kept (found_keeps c.in_ok-own.field-0 c.in-Some.own (KeepsPublisherEdge script run c.loop-p.p) c.in-Some.is c.in_ok-own.ensures.whole);
      needs = added_to g (publisher_needs script run) c.loop-p.p (map g c.args.needs.now.items) c.loop-p.needs.items c.push.new.self.items c.in-Some.own c.loop-p.invariant.needs c.in_ok-push-in-Some.ensures.items
          (some_is c.in_ok-own.field-0 c.in-Some.own _ c.in-Some.is c.in_ok-own.ensures.needs);
    }

pub returns-in-None-clause-first : goal.returns-in-None-clause-first
returns-in-None-clause-first c = (
  subst (λ (ps : List PublisherPart). c.loop-p.p < length ps) c.publishers-p-end.ensures c.loop-p-test.true,
  none_keeps c.in_ok-own.field-0 (KeepsPublisherEdge c.args.script.now c.args.run.now c.loop-p.p) c.in-None.is c.in_ok-own.ensures.whole,
  c.loop-p.invariant.kept,
)

pub returns-clause-first : goal.returns-clause-first
returns-clause-first c = λ k low. c.loop-p.invariant.kept k (omega (arith, low, c.loop-p-test.false, ap length c.publishers-p-end.ensures))
