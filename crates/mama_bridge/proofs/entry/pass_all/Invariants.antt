use Rattle.std.proofs.Common.{◌≡◌, ◌≤◌, length, take, drop}
use Rattle.mama_bridge.specs.Links.{PassSteps, weights}
use Rattle.mama_bridge.specs.Linked.{subs_in}
use Rattle.mama_bridge.specs.Placed.{present}
use Rattle.mama_bridge.proofs.entry.pass_all.Given as goal

abbrev pub invariant-loop-i : goal.invariant-loop-i
invariant-loop-i g l = record {
  done : PassSteps l.topic (present (take l.i l.initial.entries.items)) (present (take l.i l.entries.items)) l.initial.msgs.items l.msgs.items l.initial.out.items l.out.items;
  subs : subs_in l.entries.items ≡ subs_in l.initial.entries.items;
  left : drop l.i l.entries.items ≡ drop l.i l.initial.entries.items;
  len : length l.entries.items ≡ length l.initial.entries.items;
  msgs : weights l.topic (present (drop l.i l.initial.entries.items)) ≤ l.msgs.spare;
  out : weights l.topic (present (drop l.i l.initial.entries.items)) ≤ l.out.spare;
}
