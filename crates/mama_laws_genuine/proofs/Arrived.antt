-- What holds of each message that arrives: a cut leaves the message itself or none.
use Rattle.std.specs.Prelude.{Ok, Err, nat_le, if◌then◌else◌}
use Rattle.std.specs.List.{AllByRecursion}
use Rattle.std.proofs.Common.{ℕ, Bool, true, false, List, length, take}
use Rattle.mama_msg.specs.Field.{FieldData}
use Rattle.mama_payload.specs.Spelling.{spelling}
use Rattle.mama_event.specs.declared.market.MarketMsg.{MarketMsg}
use Rattle.mama_event.specs.declared.wire.PieceMsg.{PieceMsg}
use Rattle.mama_event.specs.Arrival.{Arrival, ReplyArrival, arriving, answering, cut_arrival, cut_reply, cut_body, piece_of}
use Rattle.mama_laws_genuine.proofs.Elements.{all_map}

module _ (G : MarketMsg → Type 0) where
  abbrev pub Comes : Arrival → Type 0
  Comes (Ok msg) = G msg
  Comes (Err piece) = Unit {0}

  come_if : (fits : Bool) (msg : MarketMsg) (piece : PieceMsg) → G msg → Comes (if fits then Ok msg else Err piece)
  come_if true msg piece h = h
  come_if false msg piece h = tt

  pub comes_cut : (keep : ℕ) (arrival : Arrival) → Comes arrival → Comes (cut_arrival keep arrival)
  comes_cut keep (Ok msg) h = come_if (nat_le (length (spelling msg.body)) keep) msg (cut_body keep (piece_of msg)) h
  comes_cut keep (Err piece) h = tt

  pub all_coming : (msgs : List MarketMsg) → AllByRecursion G msgs → AllByRecursion Comes (arriving msgs)
  all_coming msgs all = all_map G Comes (λ (msg : MarketMsg). Ok msg) (λ msg h. h) msgs all

module _ (R : List FieldData → Type 0) where
  abbrev pub Answers : ReplyArrival → Type 0
  Answers (Ok body) = R body
  Answers (Err bytes) = Unit {0}

  answer_if : (fits : Bool) (body : List FieldData) (bytes : List ℕ) → R body → Answers (if fits then Ok body else Err bytes)
  answer_if true body bytes h = h
  answer_if false body bytes h = tt

  pub answers_cut : (keep : ℕ) (arrival : ReplyArrival) → Answers arrival → Answers (cut_reply keep arrival)
  answers_cut keep (Ok body) h = answer_if (nat_le (length (spelling body)) keep) body (take keep (spelling body)) h
  answers_cut keep (Err bytes) h = tt

  pub all_answering : (bodies : List (List FieldData)) → AllByRecursion R bodies → AllByRecursion Answers (answering bodies)
  all_answering bodies all = all_map R Answers (λ (body : List FieldData). Ok body) (λ body h. h) bodies all
