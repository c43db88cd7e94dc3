-- believed: a publisher's record, and what makes a message of the market genuine.
use Rattle.std.specs.Prelude.{ℕ, zero, suc, List, [], slice_index_or}
use Rattle.mama_msg.specs.Field.{FieldData}
use Rattle.mama_msg.specs.Message.{apply}

-- the record of a publisher after its first n updates: at first its base, and then with each update applied to it
abbrev pub record_after : List FieldData → List (List FieldData) → ℕ → List FieldData
record_after base updates zero = base
record_after base updates (suc n) = apply (record_after base updates n) (slice_index_or updates n [])
