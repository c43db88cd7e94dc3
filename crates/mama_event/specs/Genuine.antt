-- believed: what makes a message of the market genuine.
use Rattle.std.specs.Prelude.{◌≡◌, ℕ, suc, ◌<◌, ◌≤◌, List, [], slice_index_or, length}
use Rattle.mama_msg.specs.Field.{FieldData}
use Rattle.mama_event.specs.declared.market.MsgKind.{MsgKind}
use Rattle.mama_event.specs.declared.market.MsgKind.TheVariants.{Initial, Update, Recap}
use Rattle.mama_event.specs.declared.market.MarketMsg.{MarketMsg}
use Rattle.mama_event.specs.Record.{record_after}

-- what the body of a message of this kind and number must be
abbrev pub IsGenuineBody : List FieldData → List (List FieldData) → MsgKind → ℕ → List FieldData → Type 0
IsGenuineBody base updates Update n body = (k : ℕ) × (n ≡ suc k) × (k < length updates) × (body ≡ slice_index_or updates k [])
IsGenuineBody base updates Initial n body = (n ≤ length updates) × (body ≡ record_after base updates n)
IsGenuineBody base updates Recap n body = (n ≤ length updates) × (body ≡ record_after base updates n)

-- a message is genuine for the bases and the updates of the senders: an update is its sender's update of that
-- number, which counts from 1, and an image is its sender's record at that number
pub record IsGenuine (bases : ℕ → List FieldData) (updates : ℕ → List (List FieldData)) (m : MarketMsg) : Type 0 where
  pub body : IsGenuineBody (bases m.sender) (updates m.sender) m.kind m.seq m.body
