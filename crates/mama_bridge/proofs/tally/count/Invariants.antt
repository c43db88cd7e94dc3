use Rattle.std.proofs.Common.{◌≡◌, ◌≤◌, length, take}
use Rattle.mama_bridge.specs.Placed.{present}
use Rattle.mama_bridge.proofs.tally.count.Given as goal

abbrev pub invariant-loop-i : goal.invariant-loop-i
invariant-loop-i g l = record {
  count : l.count ≡ length (present (take l.i l.entries.items));
  small : l.count ≤ l.i;
}
