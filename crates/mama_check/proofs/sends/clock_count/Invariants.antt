use Rattle.std.proofs.Common.{◌≡◌, ◌≤◌, take}
use Rattle.std.specs.Prelude.{count_by}
use Rattle.mama_rules_rounds.specs.Client.{reads_clock}
use Rattle.mama_check.proofs.sends.clock_count.Given as goal

-- the count so far, which is small
abbrev pub invariant-loop-line : goal.invariant-loop-line
invariant-loop-line l = record {
  count : l.count ≡ count_by reads_clock (take l.line-index l.lines);
  small : l.count ≤ l.line-index;
}
