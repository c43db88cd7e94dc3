use Rattle.std.proofs.Common.{◌≡◌, ◌-◌, length, take}
use Rattle.mama_payload.specs.Reading.{numbers_at}
use Rattle.mama_payload.proofs.Loops.{behind}
use Rattle.mama_payload.proofs.reading.numbers_of.Given as goal

-- the numbers so far and those that are left are all
abbrev pub invariant-loop-i : goal.invariant-loop-i
invariant-loop-i l = (length l.numbers ≡ 24) × (behind (take l.i l.numbers) (numbers_at (l.count - l.i) l.rest) ≡ numbers_at l.count l.bytes)
