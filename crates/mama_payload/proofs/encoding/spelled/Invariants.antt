use Rattle.std.proofs.Common.{◌≡◌, ◌∷◌, length, take}
use Rattle.std.specs.List.{flat_map, AllByRecursion}
use Rattle.mama_payload.specs.Spelling.{field_bytes, version_of, first_byte}
use Rattle.mama_payload.specs.Spelled.{IsField}
use Rattle.mama_payload.proofs.encoding.spelled.Given as goal

-- the version, the count and the fields so far
abbrev pub invariant-loop-i : goal.invariant-loop-i
invariant-loop-i l = record {
  text : l.out.items ≡ first_byte (version_of l.msg) ∷ length l.msg ∷ flat_map field_bytes (take l.i l.msg);
  each : AllByRecursion IsField (take l.i l.msg);
}
