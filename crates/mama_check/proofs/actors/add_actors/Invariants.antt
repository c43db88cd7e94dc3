use Rattle.std.proofs.Common.{◌≡◌, ◌+◌, ◌++◌}
use Rattle.mama_check.specs.Causal.{of_each}
use Rattle.mama_check.proofs.actors.add_actors.Given as goal

-- so many are added
abbrev pub invariant-loop-k : goal.invariant-loop-k
invariant-loop-k l = l.actors.items ≡ l.initial.actors.items ++ of_each l.k (λ k. l.first + k)
