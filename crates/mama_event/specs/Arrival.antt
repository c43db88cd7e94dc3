-- believed: what arrives at the end of a link, which may cut a message: a message, or bytes that spell none, of which the listener is told a code.
use Rattle.std.specs.Prelude.{ℕ, List, length, take, map, nat_le, Result, Ok, Err, if◌then◌else◌}
use Rattle.mama_msg.specs.Field.{FieldData}
use Rattle.mama_payload.specs.declared.fault.DecodeFault.{DecodeFault}
use Rattle.mama_payload.specs.declared.fault.DecodeFault.TheVariants as faults
use Rattle.mama_payload.specs.Spelling.{spelling}
use Rattle.mama_payload.specs.Reading.{decoded}
use Rattle.mama_event.specs.declared.market.MarketMsg.{MarketMsg}
use Rattle.mama_event.specs.declared.wire.PieceMsg.{PieceMsg}

-- the piece that a message makes
abbrev pub piece_of : MarketMsg → PieceMsg
piece_of msg = record { kind = msg.kind; sender = msg.sender; seq = msg.seq; body = spelling msg.body }

-- the piece with the first bytes of its body alone
abbrev pub cut_body : ℕ → PieceMsg → PieceMsg
cut_body keep msg = record { kind = msg.kind; sender = msg.sender; seq = msg.seq; body = take keep msg.body }

-- a message, or bytes that spell none, under the head of the message that was cut
abbrev pub Arrival : Type 0
Arrival = Result MarketMsg PieceMsg

-- and of a reply
abbrev pub ReplyArrival : Type 0
ReplyArrival = Result (List FieldData) (List ℕ)

-- What a cut leaves: a message of no more bytes than are kept is itself. Of any other the first bytes are left, and spell no message.
abbrev pub cut_arrival : ℕ → Arrival → Arrival
cut_arrival keep (Ok msg) = if nat_le (length (spelling msg.body)) keep then Ok msg else Err (cut_body keep (piece_of msg))
cut_arrival keep (Err piece) = Err (cut_body keep piece)

abbrev pub cut_reply : ℕ → ReplyArrival → ReplyArrival
cut_reply keep (Ok body) = if nat_le (length (spelling body)) keep then Ok body else Err (take keep (spelling body))
cut_reply keep (Err bytes) = Err (take keep bytes)

-- messages that go into a link, where none is cut yet
abbrev pub arriving : List MarketMsg → List Arrival
arriving msgs = map (λ (msg : MarketMsg). Ok msg) msgs

abbrev pub answering : List (List FieldData) → List ReplyArrival
answering bodies = map (λ (body : List FieldData). Ok body) bodies

-- the code of a fault, by which a listener is told of it
abbrev pub error_code : DecodeFault → ℕ
error_code (faults.Truncated place) = 1
error_code (faults.BadTag place) = 2
error_code (faults.BadText place) = 3
error_code (faults.Repeated place) = 4
error_code (faults.TooMany place) = 5
error_code (faults.Trailing place) = 6
error_code (faults.OldForm place) = 7
error_code faults.OutOfMemory = 0

abbrev pub code_in : Result (List FieldData) DecodeFault → ℕ
code_in (Ok fields) = 0
code_in (Err fault) = error_code fault

-- the code of the first fault in some bytes, and 0 where they spell a message
abbrev pub code_of : List ℕ → ℕ
code_of bytes = code_in (decoded bytes)
