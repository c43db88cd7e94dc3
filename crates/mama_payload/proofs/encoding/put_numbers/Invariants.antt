use Rattle.std.proofs.Common.{◌≡◌, ◌∷◌, ◌++◌, length, take}
use Rattle.std.specs.List.{flat_map, AllByRecursion}
use Rattle.std.specs.Int.{w64}
use Rattle.std.specs.Int.RustNames.{FitsSigned}
use Rattle.mama_payload.specs.Spelling.{signed}
use Rattle.mama_payload.proofs.encoding.put_numbers.Given as goal

-- the count and the numbers so far
abbrev pub invariant-loop-number : goal.invariant-loop-number
invariant-loop-number l = record {
  text : l.out.items ≡ l.fn.out.items ++ length l.numbers ∷ flat_map (signed w64) (take l.number-index l.numbers);
  each : AllByRecursion (FitsSigned w64) (take l.number-index l.numbers);
}
