-- believed: Which updates are kept past the first image.
use Rattle.std.specs.Prelude.{◌≡◌, ◌≢◌, ℕ, List, []}
use Rattle.mama_event.specs.declared.shape.Strategy.{Strategy}
use Rattle.mama_event.specs.declared.shape.Strategy.TheVariants.{Two}
use Rattle.mama_event.specs.declared.market.SubKind.{SubKind}
use Rattle.mama_event.specs.declared.market.MarketMsg.{MarketMsg}
use Rattle.mama_dq.specs.declared.table.Phase.{Phase}
use Rattle.mama_dq.specs.declared.table.Phase.TheVariants.{LiveOk, LiveKept}
use Rattle.mama_dq.specs.Cache.{above}
use Rattle.mama_dq.specs.Context.{ContextData}
use Rattle.mama_dq.specs.Strategy.{fold}

-- A context whose image is the sender's record keeps updates for a gap exactly where its phase says so: there are some,
-- they are all numbered above the last number, and its strategy is two. So with strategy one an image that is the
-- sender's record never keeps any.
pub record KeepsForGap (c : ContextData) : Type 0 where
  pub none : c.phase ≡ LiveOk → c.cache.updates ≡ []
  pub some : c.phase ≡ LiveKept → c.cache.updates ≢ []
  pub early : c.phase ≡ LiveKept → above c.last c.cache.updates ≡ c.cache.updates
  pub second : c.phase ≡ LiveKept → c.strategy ≡ Two

-- so it is whatever messages a subscription took, and its strategy is the one that it began with
abbrev pub KeptLaw : Type 0
KeptLaw = (strategy : Strategy) (kind : SubKind) (size : ℕ) (messages : List MarketMsg)
    → KeepsForGap (fold strategy kind size messages) × ((fold strategy kind size messages).strategy ≡ strategy)
