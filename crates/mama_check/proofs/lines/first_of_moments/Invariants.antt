use Rattle.std.proofs.Common.{ℕ, ◌<◌}
use Rattle.mama_check.specs.Rules.{KeepsMoments}
use Rattle.mama_check.proofs.lines.first_of_moments.Given as goal

-- all so far keep the rule
abbrev pub invariant-loop-c : goal.invariant-loop-c
invariant-loop-c l = (j : ℕ) → j < l.c → KeepsMoments l.script l.run j
