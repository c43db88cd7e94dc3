-- believed: what holds of all packets and pieces.
use Rattle.std.specs.Prelude.{◌≡◌, ◌<◌, ◌≤◌, ℕ, List, length, take, Ok, Err}
use Rattle.mama_msg.specs.Field.{FieldData}
use Rattle.mama_payload.specs.declared.fault.DecodeFault.TheVariants.{Truncated}
use Rattle.mama_payload.specs.Reading.{decoded}
use Rattle.mama_packet.specs.Packet.{Spells, message_of}

-- packets with the same bytes spell one message
abbrev pub BytesTellTheMessage : Type 0
BytesTellTheMessage = (bytes : List ℕ) (a b : List FieldData) → Spells bytes a → Spells bytes b → a ≡ b

-- packets of one message have the same bytes
abbrev pub MessageTellsTheBytes : Type 0
MessageTellsTheBytes = (x y : List ℕ) (fields : List FieldData) → Spells x fields → Spells y fields → x ≡ y

-- the message of a packet is the one that its bytes spell
abbrev pub MessageIsTheOneSpelled : Type 0
MessageIsTheOneSpelled = (bytes : List ℕ) (fields : List FieldData) → Spells bytes fields → message_of bytes ≡ fields

-- the bytes of a packet are read as its message
abbrev pub PacketIsRead : Type 0
PacketIsRead = (bytes : List ℕ) (fields : List FieldData) → Spells bytes fields → decoded bytes ≡ Ok fields

-- a cut of bytes to their length or more changes nothing
abbrev pub LongCutChangesNothing : Type 0
LongCutChangesNothing = (bytes : List ℕ) (keep : ℕ) → length bytes ≤ keep → take keep bytes ≡ bytes

-- a packet that is cut short is Truncated at the length to which it is cut
abbrev pub CutIsTruncated : Type 0
CutIsTruncated = (bytes : List ℕ) (fields : List FieldData) (keep : ℕ) → Spells bytes fields → keep < length bytes → decoded (take keep bytes) ≡ Err (Truncated keep)
