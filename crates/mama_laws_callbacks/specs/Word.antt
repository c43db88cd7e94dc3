-- believed: the last word that a listener has on the quality of its image.
use Rattle.std.specs.Prelude.{◌≡◌, ◌⊎◌, ℕ, List, [], ◌∷◌, Ok, Err}
use Rattle.mama_event.specs.Arrival.{Arrival}
use Rattle.mama_event.specs.declared.market.MarketMsg.{MarketMsg}
use Rattle.mama_event.specs.declared.market.SubKind.{SubKind}
use Rattle.mama_event.specs.declared.shape.Strategy.{Strategy}
use Rattle.mama_event.specs.declared.market.SubKind.TheVariants.{Market, Snapshot}
use Rattle.mama_event.specs.declared.market.Quality.{Quality}
use Rattle.mama_event.specs.declared.market.Quality.TheVariants.{Stale}
use Rattle.mama_event.specs.declared.callback.Callback.{Callback}
use Rattle.mama_event.specs.declared.callback.Callback.TheVariants as on
use Rattle.mama_dq.specs.Context.{quality_in}
use Rattle.mama_dq.specs.Strategy.{fold}
use Rattle.mama_laws_callbacks.specs.Told.{tells}

-- the quality that the last of some callbacks told, where another was told before them
abbrev pub last_word : Quality → List Callback → Quality
last_word before [] = before
last_word before (on.Msg m quality ∷ calls) = last_word quality calls
last_word before (on.Quality quality n ∷ calls) = last_word quality calls
last_word before (on.Create ∷ calls) = last_word before calls
last_word before (on.Gap first to ∷ calls) = last_word before calls
last_word before (on.RecapRequest sender ∷ calls) = last_word before calls
last_word before (on.Late sender seq ∷ calls) = last_word before calls
last_word before (on.Error code ∷ calls) = last_word before calls
last_word before (on.Destroy ∷ calls) = last_word before calls
last_word before (on.Tick moment ∷ calls) = last_word before calls
last_word before (on.Reply body ∷ calls) = last_word before calls

-- the messages of what arrives
abbrev pub messages_read : List Arrival → List MarketMsg
messages_read [] = []
messages_read (Ok m ∷ arrivals) = m ∷ messages_read arrivals
messages_read (Err piece ∷ arrivals) = messages_read arrivals

-- Whatever arrives for a market or a snapshot subscription, in whatever order, the last word that its strategy has on
-- quality is the quality of the image that it then has. Without an image that is stale.
abbrev pub LastWordsAreTrue : Type 0
LastWordsAreTrue = (strategy : Strategy) (kind : SubKind) (size : ℕ) (arrivals : List Arrival) → (kind ≡ Market) ⊎ (kind ≡ Snapshot)
    → last_word Stale (tells strategy kind size arrivals) ≡ quality_in (fold strategy kind size (messages_read arrivals)).phase
