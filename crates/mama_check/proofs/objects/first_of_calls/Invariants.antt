use Rattle.std.proofs.Common.{ℕ, ◌<◌}
use Rattle.mama_check.specs.Rules.{KeepsCalls}
use Rattle.mama_check.proofs.objects.first_of_calls.Given as goal

-- all so far keep the rule
abbrev pub invariant-loop-k : goal.invariant-loop-k
invariant-loop-k l = (j : ℕ) → j < l.k → KeepsCalls l.script l.run j
