use Rattle.std.proofs.Common.{◌≡◌, ◌+◌, ◌++◌, true, length, map}
use Rattle.mama_group.specs.Listener.{told}
use Rattle.mama_group.specs.Table.{are_distinct, all_members, new_groups}
use Rattle.mama_group.specs.Kept.{group_of}
use Rattle.mama_group.proofs.Adding.{IsBegun, members_in}
use Rattle.mama_group.proofs.table.GroupTable.new.Given as goal

abbrev pub invariant-loop-group : goal.invariant-loop-group
invariant-loop-group g l =
    let view = told g.H.GroupListener.tagged g.H.GroupListener.calls g.H.GroupListener.heard in
    record {
      begun : IsBegun l.kept.items l.places;
      distinct : are_distinct (members_in l.kept.items) (all_members l.group-iterator.rest.items) ≡ true;
      paired : length l.group-iterator.rest.items ≡ length l.left.rest.items;
      whole : map (group_of view) l.kept.items ++ new_groups l.group-iterator.rest.items (map view l.left.rest.items) ≡ new_groups l.fn.groups.items (map view l.fn.listeners.items);
      long : length l.kept.items + length l.group-iterator.rest.items ≡ length l.fn.groups.items;
    }
