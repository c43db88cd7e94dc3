-- believed: What an image that is ok promises, and who has none.
use Rattle.std.specs.Prelude.{◌≡◌, ℕ, List}
use Rattle.std.specs.List.{AllByRecursion}
use Rattle.mama_msg.specs.Field.{FieldData}
use Rattle.mama_event.specs.declared.shape.Strategy.{Strategy}
use Rattle.mama_event.specs.declared.market.SubKind.{SubKind}
use Rattle.mama_event.specs.declared.market.SubKind.TheVariants.{Basic}
use Rattle.mama_event.specs.declared.market.MarketMsg.{MarketMsg}
use Rattle.mama_event.specs.declared.market.Quality.TheVariants as quality
use Rattle.mama_event.specs.Record.{record_after}
use Rattle.mama_event.specs.Genuine.{IsGenuine}
use Rattle.mama_dq.specs.declared.table.Phase.{Phase}
use Rattle.mama_dq.specs.declared.table.Phase.TheVariants.{Await}
use Rattle.mama_dq.specs.Context.{ContextData, quality_in}
use Rattle.mama_dq.specs.Strategy.{fold}

-- the image of a context is the record of its sender at the last number
abbrev pub IsSendersRecord : (ℕ → List FieldData) → (ℕ → List (List FieldData)) → ContextData → Type 0
IsSendersRecord bases updates c = c.image ≡ record_after (bases c.sender) (updates c.sender) c.last

-- Whatever messages a subscription took, in whatever order, if each is genuine for the bases and the updates of the
-- senders, then an image that is ok is its sender's record at the last number.
abbrev pub ImageLaw : Type 0
ImageLaw = (bases : ℕ → List FieldData) (updates : ℕ → List (List FieldData)) (strategy : Strategy) (kind : SubKind) (size : ℕ) (messages : List MarketMsg)
    → AllByRecursion (IsGenuine bases updates) messages
    → quality_in (fold strategy kind size messages).phase ≡ quality.Ok
    → IsSendersRecord bases updates (fold strategy kind size messages)

-- Whatever messages a basic subscription took, it has no image.
abbrev pub BasicLaw : Type 0
BasicLaw = (strategy : Strategy) (size : ℕ) (messages : List MarketMsg) → (fold strategy Basic size messages).phase ≡ Await
