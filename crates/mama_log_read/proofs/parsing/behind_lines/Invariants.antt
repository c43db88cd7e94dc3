use Rattle.std.proofs.Common.{◌≤◌}
use Rattle.mama_log_read.proofs.Taking.{IsPast}
use Rattle.mama_log_read.proofs.parsing.behind_lines.Given as goal

abbrev pub invariant-loop : goal.invariant-loop
invariant-loop l = record { past : IsPast l.fn.text l.left l.counter; within : l.counter ≤ l.count }
