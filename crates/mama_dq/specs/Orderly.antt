-- believed: What a subscription gets over a link without faults, from one sender.
use Rattle.std.specs.Prelude.{◌≡◌, ℕ, suc, Bool, ◌&&◌, nat_lt, List, [], ◌∷◌, map, filter, if◌then◌else◌}
use Rattle.std.specs.List.{flat_map}
use Rattle.mama_event.specs.declared.shape.Strategy.{Strategy}
use Rattle.mama_event.specs.declared.market.SubKind.TheVariants.{Market}
use Rattle.mama_event.specs.declared.market.MsgKind.{MsgKind}
use Rattle.mama_event.specs.declared.market.MsgKind.TheVariants.{Initial, Update, Recap}
use Rattle.mama_event.specs.declared.market.MarketMsg.{MarketMsg}
use Rattle.mama_event.specs.declared.market.Quality.TheVariants as quality
use Rattle.mama_event.specs.declared.callback.Callback.{Callback}
use Rattle.mama_event.specs.declared.callback.Callback.TheVariants as on
use Rattle.mama_dq.specs.Table.{is_update}
use Rattle.mama_dq.specs.Strategy.{calls_of_fold}

-- the number of the last update after a message of this kind, where n was that before it
abbrev pub number_after : MsgKind → ℕ → ℕ
number_after Initial n = n
number_after Update n = suc n
number_after Recap n = n

-- the message is of this sender; an update is numbered one above the last update n, and an image carries n
pub record Follows (sender n : ℕ) (m : MarketMsg) : Type 0 where
  pub own : m.sender ≡ sender
  pub number : m.seq ≡ number_after m.kind n

-- messages of one sender in the order in which it put them, from after its update n on
abbrev pub AreInOrder : ℕ → ℕ → List MarketMsg → Type 0
AreInOrder sender n [] = Unit {0}
AreInOrder sender n (m ∷ ms) = Follows sender n m × AreInOrder sender (number_after m.kind n) ms

-- the messages from the first image message on
abbrev pub from_first_image : List MarketMsg → List MarketMsg
from_first_image [] = []
from_first_image (m ∷ ms) = if is_update m.kind then from_first_image ms else m ∷ ms

-- the message is an update numbered above n
abbrev pub is_update_above : ℕ → MarketMsg → Bool
is_update_above n m = is_update m.kind && nat_lt n m.seq

-- the callback of a message while the image is the sender's record
abbrev pub as_ok : MarketMsg → Callback
as_ok m = on.Msg m quality.Ok

-- What a market subscription is told of messages: each message from the first image on is called back once, in order,
-- and there is no other callback, so no gap, no change of quality and no late update. The updates after the first image are all that
-- were taken with a number above its number.
pub record IsToldAll (strategy : Strategy) (size : ℕ) (messages : List MarketMsg) : Type 0 where
  pub calls : flat_map (λ calls. calls) (calls_of_fold strategy Market size messages) ≡ map as_ok (from_first_image messages)
  pub updates : (first : MarketMsg) (rest : List MarketMsg) → from_first_image messages ≡ first ∷ rest
      → filter (is_update_above first.seq) messages ≡ filter (λ m. is_update m.kind) rest

-- so it is for messages of one sender in order, whatever the strategy and the size of the cache
abbrev pub OrderlyLaw : Type 0
OrderlyLaw = (strategy : Strategy) (size sender n : ℕ) (messages : List MarketMsg) → AreInOrder sender n messages → IsToldAll strategy size messages
