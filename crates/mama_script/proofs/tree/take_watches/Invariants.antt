use Rattle.std.proofs.Common.{◌≡◌, ◌++◌, map, length}
use Rattle.std.specs.List.{AllByRecursion}
use Rattle.mama_event.specs.declared.watch.WatchRow.{WatchRow}
use Rattle.mama_script.specs.Tree.{watch_line}
use Rattle.mama_script.specs.Taken.{sender_in}
use Rattle.mama_script.specs.Standing.{AreWatches}
use Rattle.mama_script.proofs.tree.take_watches.Given as goal

abbrev pub invariant-loop-line : goal.invariant-loop-line
invariant-loop-line l = record {
  lines : l.fn.lines.items ≡ map watch_line l.watches.items ++ l.lines.items;
  senders : AllByRecursion (λ (row : WatchRow). row.sender ≡ sender_in l.fn.senders.first.items (map (λ v. v.items) l.fn.senders.topics.items) row.sub) l.watches.items;
  watches : AreWatches l.lines.items;
}

abbrev pub decreases-loop-line : goal.decreases-loop-line
decreases-loop-line l = length l.lines.items
