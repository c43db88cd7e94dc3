use Rattle.std.proofs.Common.{◌≡◌, ◌≤◌, length, take}
use Rattle.mama_link.specs.Slots.{found_at}
use Rattle.mama_link.proofs.slots.count_found.Given as goal

abbrev pub invariant-loop-number : goal.invariant-loop-number
invariant-loop-number g l = record {
  counted : l.count ≡ length (found_at (take l.number-index l.numbers) l.slots);
  within : l.count ≤ l.number-index;
}
