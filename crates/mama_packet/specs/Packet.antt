-- believed: which bytes are those of a packet, and which message they spell.
use Rattle.std.specs.Prelude.{◌≡◌, ℕ, List, []}
use Rattle.std.specs.Result.{result_unwrap_or}
use Rattle.mama_msg.specs.Field.{FieldData}
use Rattle.mama_payload.specs.Spelling.{spelling}
use Rattle.mama_payload.specs.Spelled.{HasSpelling}
use Rattle.mama_payload.specs.Reading.{decoded}

-- the bytes are the spelling of this message, which has one: so it has at most 64 fields
abbrev pub Spells : List ℕ → List FieldData → Type 0
Spells bytes fields = HasSpelling fields × (bytes ≡ spelling fields)

-- the bytes are the spelling of a message
abbrev pub IsSpelling : List ℕ → Type 0
IsSpelling bytes = (fields : List FieldData) × Spells bytes fields

-- the message that the bytes spell, and the empty one where they spell none
abbrev pub message_of : List ℕ → List FieldData
message_of bytes = result_unwrap_or (decoded bytes) []
