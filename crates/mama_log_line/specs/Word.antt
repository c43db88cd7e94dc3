-- inner: How the words of a log are read. What does not fit has the number of the fault that it would have in a script's line.
use Rattle.std.specs.Prelude.{ℕ, ◌^◌, ◌==◌, Bool, ◌&&◌, nat_lt, nat_le, List, [], ◌∷◌, length, Option, Some, None, option_and_then, is_some, Result, Ok, Err, if◌then◌else◌}
use Rattle.mama_msg.specs.Field.{FieldData}
use Rattle.mama_event.specs.declared.ids.SubId.{SubId}
use Rattle.mama_event.specs.declared.ids.TimerId.{TimerId}
use Rattle.mama_event.specs.declared.ids.InboxId.{InboxId}
use Rattle.mama_event.specs.declared.ids.ObjectId.{ObjectId}
use Rattle.mama_event.specs.declared.ids.ObjectId.TheVariants.{Sub, Inbox}
use Rattle.mama_event.specs.declared.market.MarketMsg.{MarketMsg}
use Rattle.mama_event.specs.declared.market.MsgKind.{MsgKind}
use Rattle.mama_event.specs.declared.market.MsgKind.TheVariants.{Initial, Update, Recap}
use Rattle.mama_words.specs.declared.id.IdWord.{IdWord}
use Rattle.mama_words.specs.Reading.{◌>>=◌, or_fault}
use Rattle.mama_words.specs.Number.{number_in, below_in}
use Rattle.mama_words.specs.Id.{id_in}
use Rattle.mama_words.specs.KindIn.{msg_kind_in}
use Rattle.mama_words.specs.declared.nums.Nums.{Nums}
use Rattle.mama_words.specs.Field.{message_in}
use Rattle.mama_words.specs.Order.{asked_in}
use Rattle.mama_log_line.specs.Names.{NamesData, terms_of, timer_terms_of, inbox_terms_of}

-- an id with both numbers below 2 ^ 32
abbrev pub is_small : IdWord → Bool
is_small id = nat_lt id.client (2 ^ 32) && nat_lt id.number (2 ^ 32)

abbrev pub sub_of : IdWord → SubId
sub_of id = record { client = id.client; number = id.number }

abbrev pub timer_of : IdWord → TimerId
timer_of id = record { client = id.client; number = id.number }

abbrev pub inbox_of : IdWord → InboxId
inbox_of id = record { client = id.client; number = id.number }

-- the object, if the script declares it
unfoldable pub known_sub : NamesData → IdWord → Option SubId
known_sub names id = if is_small id && is_some (terms_of names (sub_of id)) then Some (sub_of id) else None

unfoldable pub known_timer : NamesData → IdWord → Option TimerId
known_timer names id = if is_small id && is_some (timer_terms_of names (timer_of id)) then Some (timer_of id) else None

unfoldable pub known_inbox : NamesData → IdWord → Option InboxId
known_inbox names id = if is_small id && is_some (inbox_terms_of names (inbox_of id)) then Some (inbox_of id) else None

-- the object that a word names
unfoldable pub sub_in : NamesData → List ℕ → Result SubId ℕ
sub_in names word = or_fault 5 (id_in 115 word) >>= λ id. or_fault 10 (known_sub names id)

unfoldable pub timer_in : NamesData → List ℕ → Result TimerId ℕ
timer_in names word = or_fault 5 (id_in 116 word) >>= λ id. or_fault 10 (known_timer names id)

unfoldable pub inbox_in : NamesData → List ℕ → Result InboxId ℕ
inbox_in names word = or_fault 5 (id_in 105 word) >>= λ id. or_fault 10 (known_inbox names id)

-- a subscription or an inbox
unfoldable pub linked_in : NamesData → List ℕ → Result ObjectId ℕ
linked_in names [] = Err 5
linked_in names (b ∷ bs) =
    if b == 115 then (sub_in names (b ∷ bs) >>= λ id. Ok (Sub id))
    else (inbox_in names (b ∷ bs) >>= λ id. Ok (Inbox id))

-- a number below 2 ^ 32
abbrev pub small_in : List ℕ → Result ℕ ℕ
small_in word = or_fault 5 (below_in (2 ^ 32) word)

-- the topic, if the script declares it
abbrev pub known_topic : NamesData → ℕ → Option ℕ
known_topic names topic = if nat_lt topic names.shape.bounds.topics then Some topic else None

unfoldable pub topic_in : NamesData → List ℕ → Result ℕ ℕ
topic_in names word = or_fault 5 (number_in word) >>= λ topic. or_fault 9 (known_topic names topic)

-- 1 to 8 fids
unfoldable pub few_fids_in : List (List ℕ) → Result (List ℕ) ℕ
few_fids_in words = if nat_le (length words) 8 then asked_in words else Err 4

-- at most 64 fields
unfoldable pub body_in : Nums → List (List ℕ) → Result (List FieldData) ℕ
body_in nums words = if nat_le (length words) 64 then message_in nums words else Err 4

-- a message of the market
unfoldable pub market_in : Nums → List (List ℕ) → Result MarketMsg ℕ
market_in nums (kind ∷ sender ∷ seq ∷ fields) = do
  kind ← or_fault 4 (msg_kind_in kind)
  sender ← small_in sender
  seq ← small_in seq
  body ← body_in nums fields
  Ok (record { kind = kind; sender = sender; seq = seq; body = body })
market_in nums words = Err 4

-- the kind, if a publisher may be asked for it
abbrev pub wanted : MsgKind → Option MsgKind
wanted Initial = Some Initial
wanted Update = None
wanted Recap = Some Recap

abbrev pub wanted_in : List ℕ → Option MsgKind
wanted_in word = option_and_then wanted (msg_kind_in word)
