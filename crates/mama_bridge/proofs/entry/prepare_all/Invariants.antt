use Rattle.std.proofs.Common.{◌≡◌, length, take, map}
use Rattle.mama_bridge.specs.Links.{Each, ReadyIf, HoldsIf, weights}
use Rattle.mama_bridge.specs.Linked.{entry_seen}
use Rattle.mama_bridge.specs.Placed.{present}
use Rattle.mama_bridge.proofs.entry.prepare_all.Given as goal

abbrev pub invariant-loop-i : goal.invariant-loop-i
invariant-loop-i l = record {
  seen : map entry_seen l.entries.items ≡ map entry_seen l.initial.entries.items;
  len : length l.entries.items ≡ length l.initial.entries.items;
  ready : Each (ReadyIf l.topic) (present (take l.i l.entries.items));
  holds : Each (HoldsIf l.topic l.msg) (present (take l.i l.entries.items));
  total : l.total ≡ weights l.topic (present (take l.i l.entries.items));
}
