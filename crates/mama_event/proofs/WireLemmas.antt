-- What arrives of a message that was cut, by whether the cut keeps all of its bytes.
use Rattle.std.proofs.Common.{◌≡◌, ◌∙◌, ℕ, ◌<◌, ◌≤◌, Bool, true, false, List, length, take, Ok, Err, refl, ap, arith, nat_le, if◌then◌else◌}
use Rattle.std.proofs.lemmas.Bool.Decides.{nat_tests}
use Rattle.mama_msg.specs.Field.{FieldData}
use Rattle.mama_payload.specs.declared.fault.DecodeFault.{DecodeFault}
use Rattle.mama_payload.specs.declared.fault.DecodeFault.TheVariants.{Truncated}
use Rattle.mama_payload.specs.Spelling.{spelling}
use Rattle.mama_payload.specs.Spelled.{HasSpelling}
use Rattle.mama_payload.specs.Reading.{decoded}
use Rattle.mama_packet.specs.Laws.{PacketIsRead, LongCutChangesNothing, CutIsTruncated}
use Rattle.mama_event.specs.declared.market.MarketMsg.{MarketMsg}
use Rattle.mama_event.specs.Wire.{arrived, reply_arrived, arrival_of, reply_of}
use Rattle.mama_event.specs.Arrival.{piece_of, cut_body, cut_arrival, cut_reply}

at_most : (a b : ℕ) → nat_le a b ≡ true → a ≤ b
at_most a b h = grind (arith, nat_tests)

above : (a b : ℕ) → nat_le a b ≡ false → b < a
above a b h = grind (arith, nat_tests)

module _ (read : PacketIsRead) (long : LongCutChangesNothing) (short : CutIsTruncated) where
  whole_read : (body : List FieldData) → HasSpelling body → decoded (spelling body) ≡ Ok body
  whole_read body spelled = read (spelling body) body (spelled, refl)

  long_read : (body : List FieldData) (keep : ℕ) → HasSpelling body → nat_le (length (spelling body)) keep ≡ true → decoded (take keep (spelling body)) ≡ Ok body
  long_read body keep spelled h = ap decoded (long (spelling body) keep (at_most (length (spelling body)) keep h)) ∙ whole_read body spelled

  short_read : (body : List FieldData) (keep : ℕ) → HasSpelling body → nat_le (length (spelling body)) keep ≡ false → decoded (take keep (spelling body)) ≡ Err (Truncated keep)
  short_read body keep spelled h = short (spelling body) body keep (spelled, refl) (above (length (spelling body)) keep h)

  pub whole_arrives : (msg : MarketMsg) → HasSpelling msg.body → arrival_of (piece_of msg) ≡ Ok msg
  whole_arrives msg spelled = ap (arrived (piece_of msg)) (whole_read msg.body spelled)

  pub whole_reply_arrives : (body : List FieldData) → HasSpelling body → reply_of (spelling body) ≡ Ok body
  whole_reply_arrives body spelled = ap (reply_arrived (spelling body)) (whole_read body spelled)

  pub cut_arrives : (msg : MarketMsg) (keep : ℕ) → HasSpelling msg.body → arrival_of (cut_body keep (piece_of msg)) ≡ cut_arrival keep (Ok msg)
  cut_arrives msg keep spelled = by_test (nat_le (length (spelling msg.body)) keep) refl
    where
      by_test : (b : Bool) → nat_le (length (spelling msg.body)) keep ≡ b → arrival_of (cut_body keep (piece_of msg)) ≡ (if b then Ok msg else Err (cut_body keep (piece_of msg)))
      by_test true h = ap (arrived (cut_body keep (piece_of msg))) (long_read msg.body keep spelled h)
      by_test false h = ap (arrived (cut_body keep (piece_of msg))) (short_read msg.body keep spelled h)

  pub cut_reply_arrives : (body : List FieldData) (keep : ℕ) → HasSpelling body → reply_of (take keep (spelling body)) ≡ cut_reply keep (Ok body)
  cut_reply_arrives body keep spelled = by_test (nat_le (length (spelling body)) keep) refl
    where
      by_test : (b : Bool) → nat_le (length (spelling body)) keep ≡ b → reply_of (take keep (spelling body)) ≡ (if b then Ok body else Err (take keep (spelling body)))
      by_test true h = ap (reply_arrived (take keep (spelling body))) (long_read body keep spelled h)
      by_test false h = ap (reply_arrived (take keep (spelling body))) (short_read body keep spelled h)
