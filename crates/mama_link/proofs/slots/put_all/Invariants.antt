use Rattle.std.proofs.Common.{◌≡◌, ◌+◌, ◌++◌, length, option_to_list}
use Rattle.std.specs.List.{flat_map}
use Rattle.mama_link.proofs.slots.put_all.Given as goal

abbrev pub invariant-loop-slot : goal.invariant-loop-slot
invariant-loop-slot g l = record {
  out : l.out.items ++ flat_map option_to_list l.slot-iterator.rest.items ≡ l.initial.out.items ++ flat_map option_to_list l.fn.slots.items;
  spare : l.out.spare + length (flat_map option_to_list l.fn.slots.items) ≡ l.initial.out.spare + length (flat_map option_to_list l.slot-iterator.rest.items);
}
