use Rattle.std.proofs.Common.{ℕ, ◌<◌}
use Rattle.mama_check.specs.Rules.{KeepsLines}
use Rattle.mama_check.proofs.lines.first_of_lines.Given as goal

-- all so far keep the rule
abbrev pub invariant-loop-p : goal.invariant-loop-p
invariant-loop-p l = (j : ℕ) → j < l.p → KeepsLines l.script l.run j
