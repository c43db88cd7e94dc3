-- believed: messages of the market as they travel: packed, as pieces that may be cut, and what is read of them.
use Rattle.std.specs.Prelude.{ℕ, List, Result, Ok, Err}
use Rattle.mama_msg.specs.Field.{FieldData}
use Rattle.mama_payload.specs.declared.fault.DecodeFault.{DecodeFault}
use Rattle.mama_payload.specs.Reading.{decoded}
use Rattle.mama_packet.specs.Packet.{message_of}
use Rattle.mama_event.specs.declared.market.MarketMsg.{MarketMsg}
use Rattle.mama_event.specs.declared.wire.WireMsg.{WireMsg}
use Rattle.mama_event.specs.declared.wire.PieceMsg.{PieceMsg}
use Rattle.mama_event.specs.Arrival.{Arrival, ReplyArrival}

-- the message that is packed: its body is the one that the packet spells
abbrev pub market_of : WireMsg → MarketMsg
market_of msg = record { kind = msg.kind; sender = msg.sender; seq = msg.seq; body = message_of msg.body }

-- a packed message as a piece of which nothing is cut
abbrev pub whole_piece : WireMsg → PieceMsg
whole_piece msg = record { kind = msg.kind; sender = msg.sender; seq = msg.seq; body = msg.body }

-- a piece with the body that was read, or the piece itself
abbrev pub arrived : PieceMsg → Result (List FieldData) DecodeFault → Arrival
arrived msg (Ok fields) = Ok (record { kind = msg.kind; sender = msg.sender; seq = msg.seq; body = fields })
arrived msg (Err fault) = Err msg

abbrev pub reply_arrived : List ℕ → Result (List FieldData) DecodeFault → ReplyArrival
reply_arrived bytes (Ok fields) = Ok fields
reply_arrived bytes (Err fault) = Err bytes

-- what a piece is read as
abbrev pub arrival_of : PieceMsg → Arrival
arrival_of msg = arrived msg (decoded msg.body)

abbrev pub reply_of : List ℕ → ReplyArrival
reply_of bytes = reply_arrived bytes (decoded bytes)

-- A message with a piece for its body, with the body that was read, or the fault that stopped the reading.
abbrev pub headed : PieceMsg → Result (List FieldData) DecodeFault → Result MarketMsg DecodeFault
headed msg (Ok fields) = Ok (record { kind = msg.kind; sender = msg.sender; seq = msg.seq; body = fields })
headed msg (Err fault) = Err fault

abbrev pub read_as : PieceMsg → Result MarketMsg DecodeFault
read_as msg = headed msg (decoded msg.body)
