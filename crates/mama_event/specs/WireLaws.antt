-- believed: what arrives of a packed message, be it cut or not.
use Rattle.std.specs.Prelude.{◌≡◌, ℕ, List, take, Ok}
use Rattle.mama_msg.specs.Field.{FieldData}
use Rattle.mama_payload.specs.Spelling.{spelling}
use Rattle.mama_payload.specs.Spelled.{HasSpelling}
use Rattle.mama_event.specs.declared.market.MarketMsg.{MarketMsg}
use Rattle.mama_event.specs.Wire.{arrival_of, reply_of}
use Rattle.mama_event.specs.Arrival.{piece_of, cut_body, cut_arrival, cut_reply}

-- a message of which nothing was cut arrives
abbrev pub WholeMessagesArrive : Type 0
WholeMessagesArrive = (msg : MarketMsg) → HasSpelling msg.body → arrival_of (piece_of msg) ≡ Ok msg

abbrev pub WholeRepliesArrive : Type 0
WholeRepliesArrive = (body : List FieldData) → HasSpelling body → reply_of (spelling body) ≡ Ok body

-- what is read of a message that was cut is what a cut leaves of it
abbrev pub CutMessagesArrive : Type 0
CutMessagesArrive = (msg : MarketMsg) (keep : ℕ) → HasSpelling msg.body → arrival_of (cut_body keep (piece_of msg)) ≡ cut_arrival keep (Ok msg)

abbrev pub CutRepliesArrive : Type 0
CutRepliesArrive = (body : List FieldData) (keep : ℕ) → HasSpelling body → reply_of (take keep (spelling body)) ≡ cut_reply keep (Ok body)
