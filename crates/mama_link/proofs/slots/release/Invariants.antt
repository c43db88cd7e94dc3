use Rattle.std.proofs.Common.{◌≡◌, ◌≤◌, ◌+◌, ◌++◌, length, drop}
use Rattle.std.specs.Vec.{vec_capacity, vec_len}
use Rattle.mama_link.specs.Slots.{taken_at, emptied_at}
use Rattle.mama_link.proofs.slots.release.Given as goal

abbrev pub invariant-loop-number : goal.invariant-loop-number
invariant-loop-number g l = record {
  out : l.out.items ++ taken_at (drop l.number-index l.numbers) l.slots.items ≡ l.initial.out.items ++ taken_at l.numbers l.initial.slots.items;
  counted : l.released + length (taken_at (drop l.number-index l.numbers) l.slots.items) ≡ length (taken_at l.numbers l.initial.slots.items);
  within : l.released ≤ l.number-index;
  spare : l.out.spare + l.released ≡ l.initial.out.spare;
  slots : emptied_at (drop l.number-index l.numbers) l.slots.items ≡ emptied_at l.numbers l.initial.slots.items;
  len : vec_len l.slots ≡ vec_len l.initial.slots;
  capacity : vec_capacity l.slots ≡ vec_capacity l.initial.slots;
}
