use Rattle.std.specs.Prelude.{map}
use Rattle.std.specs.Vec.{vec_len, vec_capacity}
use Rattle.std.proofs.Common.{◌≡◌, ◌+◌, ◌≤◌, ◌++◌, length}
use Rattle.mama_group.specs.Listener.{told}
use Rattle.mama_group.specs.Table.{part_of, part_given}
use Rattle.mama_group.specs.Kept.{group_of}
use Rattle.mama_group.proofs.table.parts_of.Given as goal

abbrev pub invariant-loop-group : goal.invariant-loop-group
invariant-loop-group g l = record {
  moved : map (part_given (told g.H.GroupListener.tagged g.H.GroupListener.calls g.H.GroupListener.heard)) l.parts.items ≡ map part_of (map (group_of (told g.H.GroupListener.tagged g.H.GroupListener.calls g.H.GroupListener.heard)) l.yielded);
  whole : l.yielded ++ l.group-iterator.rest.items ≡ l.fn.groups.items;
  room : vec_len l.parts + length l.group-iterator.rest.items ≤ vec_capacity l.parts;
}
