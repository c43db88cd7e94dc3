use Rattle.std.specs.Prelude.{Option}
use Rattle.std.proofs.Common.{◌≡◌, ℕ, List, length, map, ap, sym, ◌∙◌, arith, below_more}
use Rattle.std.specs.Global.{Vec}
use Rattle.std.proofs.lemmas.List.{length-map}
use Rattle.mama_event.specs.declared.to_queue.QueueNote.{QueueNote}
use Rattle.mama_event.specs.Ports.{queues_of}
use Rattle.mama_check_order.specs.declared.order.Need.{Need}
use Rattle.mama_check_queue.proofs.Options.{some_is}
use Rattle.mama_check.specs.Rules.{KeepsQueueEdges}
use Rattle.mama_check.specs.Causal.{queue_needs}
use Rattle.mama_check.proofs.BrokenLemmas.{found_keeps, none_keeps}
use Rattle.mama_check.proofs.Causes.{added_to}
use Rattle.mama_check.proofs.edges.add_queues.Goals as goal

pub loop-q-preserved : goal.loop-q-preserved
loop-q-preserved c =
    let script = c.args.script.now in
    let run = c.args.run.now in
    let g = λ (v : Vec (Option Need)). v.items in
    record {
      kept = below_more _ _ c.loop-q.invariant.kept (found_keeps c.in_ok-own.field-0 c.in-Some.own (KeepsQueueEdges script run c.loop-q.q) c.in-Some.is c.in_ok-own.ensures.whole);
      needs = added_to g (queue_needs script run) c.loop-q.q (map g c.args.needs.now.items) c.loop-q.needs.items c.push.new.self.items c.in-Some.own c.loop-q.invariant.needs c.in_ok-push-in-Some.ensures.items
          (some_is c.in_ok-own.field-0 c.in-Some.own _ c.in-Some.is c.in_ok-own.ensures.needs);
    }

pub returns-in-None-clause-first : goal.returns-in-None-clause-first
returns-in-None-clause-first c =
    let many : length c.queues-q-end.result.now ≡ queues_of c.args.script.now.shape =
    sym (length-map c.queues-q-end.result.now (λ (journal : Vec (ℕ × QueueNote)). journal.items)) ∙ ap (λ (js : List (List (ℕ × QueueNote))). length js) c.queues-q-end.ensures ∙ c.requires.journals in (
      omega (arith, many, c.loop-q-test.true),
      none_keeps c.in_ok-own.field-0 (KeepsQueueEdges c.args.script.now c.args.run.now c.loop-q.q) c.in-None.is c.in_ok-own.ensures.whole,
      c.loop-q.invariant.kept,
    )

pub returns-clause-first : goal.returns-clause-first
returns-clause-first c =
    let many : length c.queues-q-end.result.now ≡ queues_of c.args.script.now.shape =
    sym (length-map c.queues-q-end.result.now (λ (journal : Vec (ℕ × QueueNote)). journal.items)) ∙ ap (λ (js : List (List (ℕ × QueueNote))). length js) c.queues-q-end.ensures ∙ c.requires.journals in
    λ k low. c.loop-q.invariant.kept k (omega (arith, low, c.loop-q-test.false, many))
