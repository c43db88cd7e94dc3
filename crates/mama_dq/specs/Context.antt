-- believed: The context of a subscription: what it knows of its image.
use Rattle.std.specs.Prelude.{ℕ, Bool, true, false, List, []}
use Rattle.mama_msg.specs.Field.{FieldData}
use Rattle.mama_event.specs.declared.shape.Strategy.{Strategy}
use Rattle.mama_event.specs.declared.market.SubKind.{SubKind}
use Rattle.mama_event.specs.declared.market.Quality.{Quality}
use Rattle.mama_event.specs.declared.market.Quality.TheVariants as quality
use Rattle.mama_dq.specs.declared.table.Phase.{Phase}
use Rattle.mama_dq.specs.declared.table.Phase.TheVariants.{Await, LiveOk, LiveStale, LiveKept}
use Rattle.mama_dq.specs.Cache.{CacheData}

-- A context. The sender is that of the image, and while there is no image that of the cached updates, 0 before the
-- first. The last number is that of the last update in the image; while there is no image, it is 0 and the image empty.
pub record ContextData : Type 0 where
  pub strategy : Strategy
  pub kind : SubKind
  pub phase : Phase
  pub sender : ℕ
  pub last : ℕ
  pub image : List FieldData
  pub cache : CacheData

-- the context of a new subscription
abbrev pub new_context : Strategy → SubKind → ℕ → ContextData
new_context strategy kind size = record { strategy = strategy; kind = kind; phase = Await; sender = 0; last = 0; image = []; cache = record { size = size; updates = [] } }

-- an image in this phase is the sender's record
abbrev pub is_ok : Phase → Bool
is_ok Await = false
is_ok LiveOk = true
is_ok LiveStale = false
is_ok LiveKept = true

-- the quality of a context's image; while there is none, it is stale
abbrev pub quality_in : Phase → Quality
quality_in Await = quality.Stale
quality_in LiveOk = quality.Ok
quality_in LiveStale = quality.Stale
quality_in LiveKept = quality.Ok

-- a number that is 0 while there is no image
abbrev pub with_image : Phase → ℕ → ℕ
with_image Await n = 0
with_image LiveOk n = n
with_image LiveStale n = n
with_image LiveKept n = n
