use Rattle.std.proofs.Common.{◌≡◌, ◌≤◌, length}
use Rattle.mama_bridge.specs.Linked.{AreIndexed, IsGap}
use Rattle.mama_bridge.specs.Placed.{present}
use Rattle.mama_bridge.proofs.numbers.compact.Given as goal

abbrev pub invariant-loop-i : goal.invariant-loop-i
invariant-loop-i l = record {
  next : l.next ≤ l.i;
  gap : IsGap l.entries.items l.next l.i;
  indexed : AreIndexed l.indexes l.entries.items;
  len : length l.entries.items ≡ length l.initial.entries.items;
  links : present l.entries.items ≡ present l.initial.entries.items;
}
