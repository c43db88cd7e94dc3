use Rattle.std.proofs.Common.{◌≡◌, ◌≤◌, ◌++◌, drop}
use Rattle.mama_replay.specs.Needs.{numbers_from, step_numbers}
use Rattle.mama_replay.proofs.needs.numbers_of.Given as goal

-- the numbers so far and those of what is left are those of all
abbrev pub invariant-loop-line : goal.invariant-loop-line
invariant-loop-line l = record {
  told : l.numbers.items ++ numbers_from l.number (drop l.line-index l.lines) ≡ step_numbers l.lines;
  low : l.number ≤ l.line-index;
}
