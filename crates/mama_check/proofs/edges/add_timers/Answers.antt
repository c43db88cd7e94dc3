use Rattle.std.specs.Prelude.{Option}
use Rattle.std.specs.Global.{Vec}
use Rattle.mama_check_order.specs.declared.order.Need.{Need}
use Rattle.mama_check_queue.proofs.Options.{some_is}
use Rattle.mama_check.specs.Rules.{KeepsTimersEdges}
use Rattle.mama_check.specs.Causal.{timers_needs}
use Rattle.mama_check.proofs.BrokenLemmas.{found_keeps, none_keeps, yes_keeps, no_keeps}
use Rattle.mama_check.proofs.Causes.{one_put}
use Rattle.mama_check.proofs.edges.add_timers.Goals as goal

pub returns-in_ok-push-in-Some-clause-whole : goal.returns-in_ok-push-in-Some-clause-whole
returns-in_ok-push-in-Some-clause-whole c =
    let Keeps = KeepsTimersEdges c.args.script.now c.args.run.now in
    yes_keeps Keeps (found_keeps c.in_ok-own.field-0 c.in-Some.own Keeps c.in-Some.is c.in_ok-own.ensures.whole)

pub returns-in_ok-push-in-Some-clause-needs : goal.returns-in_ok-push-in-Some-clause-needs
returns-in_ok-push-in-Some-clause-needs c =
    one_put (λ (v : Vec (Option Need)). v.items) c.args.needs.now.items c.push.new.self.items c.in-Some.own (timers_needs c.args.script.now c.args.run.now) c.in_ok-push-in-Some.ensures.items
    (some_is c.in_ok-own.field-0 c.in-Some.own _ c.in-Some.is c.in_ok-own.ensures.needs)

pub returns-in-None-clause-whole : goal.returns-in-None-clause-whole
returns-in-None-clause-whole c =
    let Keeps = KeepsTimersEdges c.args.script.now c.args.run.now in
    no_keeps Keeps (none_keeps c.in_ok-own.field-0 Keeps c.in-None.is c.in_ok-own.ensures.whole)
