use Rattle.std.proofs.Common.{◌≡◌, ℕ, take}
use Rattle.mama_link.specs.Table.{slots_at, slots_due}
use Rattle.mama_link.proofs.faults.by_place.Given as goal

abbrev pub invariant-loop-slot : goal.invariant-loop-slot
invariant-loop-slot l = (place : ℕ) → slots_at l.dues place ≡ slots_due place 0 (take l.slot l.table)
