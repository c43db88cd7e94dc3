use Rattle.std.proofs.Common.{◌≡◌, ℕ, ◌<◌, ◌++◌, map}
use Rattle.mama_check.specs.Rules.{KeepsQueueEdges}
use Rattle.mama_check.specs.Causal.{of_each, queue_needs}
use Rattle.mama_check.proofs.edges.add_queues.Given as goal

-- all so far keep the rule, and what they need is added
abbrev pub invariant-loop-q : goal.invariant-loop-q
invariant-loop-q l = record {
  kept : (j : ℕ) → j < l.q → KeepsQueueEdges l.script l.run j;
  needs : map (λ actor. actor.items) l.needs.items ≡ map (λ actor. actor.items) l.initial.needs.items ++ of_each l.q (queue_needs l.script l.run);
}
