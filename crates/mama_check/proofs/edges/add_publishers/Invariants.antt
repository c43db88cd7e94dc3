use Rattle.std.proofs.Common.{◌≡◌, ℕ, ◌<◌, ◌++◌, map}
use Rattle.mama_check.specs.Rules.{KeepsPublisherEdge}
use Rattle.mama_check.specs.Causal.{of_each, publisher_needs}
use Rattle.mama_check.proofs.edges.add_publishers.Given as goal

-- all so far keep the rule, and what they need is added
abbrev pub invariant-loop-p : goal.invariant-loop-p
invariant-loop-p l = record {
  kept : (j : ℕ) → j < l.p → KeepsPublisherEdge l.script l.run j;
  needs : map (λ actor. actor.items) l.needs.items ≡ map (λ actor. actor.items) l.initial.needs.items ++ of_each l.p (publisher_needs l.script l.run);
}
