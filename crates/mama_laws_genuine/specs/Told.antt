-- believed: when what a listener is told is true of the messages that its subscription handled.
use Rattle.std.specs.Prelude.{◌≡◌, ◌⊎◌, true, false, ℕ, List, ◌∷◌, ◌++◌, Option, Some}
use Rattle.std.specs.List.{Contains}
use Rattle.mama_event.specs.declared.market.SubKind.{SubKind}
use Rattle.mama_event.specs.declared.market.SubKind.TheVariants.{Basic}
use Rattle.mama_event.specs.declared.market.MarketMsg.{MarketMsg}
use Rattle.mama_event.specs.declared.callback.Callback.{Callback}
use Rattle.mama_event.specs.declared.callback.Callback.TheVariants as on
use Rattle.mama_event.specs.declared.market.Quality.{Quality}
use Rattle.mama_event.specs.declared.market.Quality.TheVariants as quality
use Rattle.mama_event.specs.declared.to_queue.Make.{Make}
use Rattle.mama_event.specs.declared.to_queue.Make.TheVariants as make
use Rattle.mama_event.specs.declared.shape.Strategy.{Strategy}
use Rattle.mama_event.specs.declared.shape.Strategy.TheVariants.{One}
use Rattle.mama_dq.specs.declared.table.Action.TheVariants.{Switch}
use Rattle.mama_dq.specs.Gap.{IsTrueGap, stretch_of, stale_after_gap}
use Rattle.mama_dq.specs.Strategy.{fold, callbacks_of, action_of}

-- the strategy and the kind of a subscription, and the size of its cache, by how it was made
abbrev pub strategy_of : Option Make → Strategy
strategy_of (Some (make.Sub kind cache strategy)) = strategy
strategy_of _ = One

abbrev pub kind_of : Option Make → SubKind
kind_of (Some (make.Sub kind cache strategy)) = kind
kind_of _ = Basic

abbrev pub size_of : Option Make → ℕ
size_of (Some (make.Sub kind cache strategy)) = cache
size_of _ = 0

-- A callback is made by one of the messages that a subscription handled: it is among those of that message, after the
-- messages before it.
pub record IsMadeBy (strategy : Strategy) (kind : SubKind) (size : ℕ) (messages : List MarketMsg) (call : Callback) : Type 0 where
  pub before : List MarketMsg
  pub message : MarketMsg
  pub later : List MarketMsg
  pub cut : messages ≡ before ++ message ∷ later
  pub made : Contains (callbacks_of (fold strategy kind size before) message) call

-- A gap is true of the messages that a subscription handled: one of them tells it, and each of its numbers is missing
-- among those up to that one, or was dropped by a full cache, since the subscription last turned to the sender. So it is
-- with each of the messages that tells it, if it is told more than once.
pub record IsToldOf (strategy : Strategy) (kind : SubKind) (size : ℕ) (messages : List MarketMsg) (first to : ℕ) : Type 0 where
  pub by : IsMadeBy strategy kind size messages (on.Gap first to)
  pub gap : IsTrueGap (stretch_of strategy kind size by.before by.message) by.message.sender first to
  pub each : (other : IsMadeBy strategy kind size messages (on.Gap first to)) → IsTrueGap (stretch_of strategy kind size other.before other.message) other.message.sender first to

-- The message that calls the image stale tells a gap right before, or turns the subscription to another sender; and so
-- does each, if it is called so more than once.
pub record HasReason (strategy : Strategy) (kind : SubKind) (size : ℕ) (messages : List MarketMsg) (n : ℕ) : Type 0 where
  pub by : IsMadeBy strategy kind size messages (on.Quality quality.Stale n)
  pub reason : (stale_after_gap false (callbacks_of (fold strategy kind size by.before) by.message) ≡ true) ⊎ (action_of (fold strategy kind size by.before) by.message ≡ Switch)
  pub each : (other : IsMadeBy strategy kind size messages (on.Quality quality.Stale n))
      → (stale_after_gap false (callbacks_of (fold strategy kind size other.before) other.message) ≡ true) ⊎ (action_of (fold strategy kind size other.before) other.message ≡ Switch)

abbrev pub TellsQuality : Strategy → SubKind → ℕ → List MarketMsg → Quality → ℕ → Type 0
TellsQuality strategy kind size messages quality.Ok n = IsMadeBy strategy kind size messages (on.Quality quality.Ok n)
TellsQuality strategy kind size messages quality.Stale n = HasReason strategy kind size messages n

-- what a subscription's callback tells of gaps, of its quality, of recaps and of late updates is true of the messages that it handled
abbrev pub TellsOf : Strategy → SubKind → ℕ → List MarketMsg → Callback → Type 0
TellsOf strategy kind size messages (on.Gap first to) = IsToldOf strategy kind size messages first to
TellsOf strategy kind size messages (on.Quality q n) = TellsQuality strategy kind size messages q n
TellsOf strategy kind size messages (on.RecapRequest s) = IsMadeBy strategy kind size messages (on.RecapRequest s)
TellsOf strategy kind size messages on.Create = Unit {0}
TellsOf strategy kind size messages (on.Msg m q) = Unit {0}
TellsOf strategy kind size messages (on.Late s n) = IsMadeBy strategy kind size messages (on.Late s n)
TellsOf strategy kind size messages (on.Error e) = Unit {0}
TellsOf strategy kind size messages on.Destroy = Unit {0}
TellsOf strategy kind size messages (on.Tick t) = Unit {0}
TellsOf strategy kind size messages (on.Reply b) = Unit {0}
