use Rattle.std.proofs.Common.{◌+◌, ◌≤◌, length}
use Rattle.mama_log_read.proofs.Taking.{IsCounting}
use Rattle.mama_log_read.proofs.parsing.line_number.Given as goal

abbrev pub invariant-loop-left : goal.invariant-loop-left
invariant-loop-left l = record {
  counting : IsCounting l.fn.text l.left l.rest l.number;
  first : 1 ≤ l.number;
  few : l.number + length l.left ≤ length l.fn.text + 1;
}

abbrev pub decreases-loop-left : goal.decreases-loop-left
decreases-loop-left l = length l.left
