use Rattle.std.specs.Arc.{arc_value}
use Rattle.std.specs.Global.{Vec}
use Rattle.std.specs.List.{AllByRecursion}
use Rattle.std.proofs.Common.{◌≡◌, ℕ, ◌++◌, length, map}
use Rattle.mama_event.specs.declared.group.GroupRow.{GroupRow}
use Rattle.mama_event.specs.declared.watch.WatchRow.{WatchRow}
use Rattle.mama_seats.specs.Heard.{IsGroupList}
use Rattle.mama_timeout.specs.Table.{AreApart}
use Rattle.mama_drive.specs.Start.{new_servers}
use Rattle.mama_drive.proofs.starting.queue_seats.Given as goal

abbrev pub invariant-loop-list : goal.invariant-loop-list
invariant-loop-list l = record {
  paired : length l.list-iterator.rest.items ≡ length l.left.rest.items;
  groups : AllByRecursion (λ (list : Vec (ℕ × GroupRow)). IsGroupList list.items) l.list-iterator.rest.items;
  watches : AllByRecursion (λ (list : Vec (ℕ × WatchRow)). AreApart list.items) l.left.rest.items;
  whole : l.seats.items ++ new_servers (arc_value l.plans) (map (λ (list : Vec (ℕ × GroupRow)). list.items) l.list-iterator.rest.items) (map (λ (list : Vec (ℕ × WatchRow)). list.items) l.left.rest.items)
      ≡ new_servers (arc_value l.plans) (map (λ (list : Vec (ℕ × GroupRow)). list.items) l.fn.groups.items) (map (λ (list : Vec (ℕ × WatchRow)). list.items) l.fn.watches.items);
}
