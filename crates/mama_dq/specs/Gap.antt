-- believed: What a gap that is told is about, and when an image is called stale.
use Rattle.std.specs.Prelude.{◌≡◌, ℕ, ◌≤◌, Bool, true, false, not, ◌&&◌, ◌||◌, ◌==◌, nat_lt, List, [], ◌∷◌, ◌++◌, length, if◌then◌else◌, ◌⊎◌}
use Rattle.std.specs.List.{AllByRecursion, list_any}
use Rattle.mama_msg.specs.Field.{FieldData}
use Rattle.mama_event.specs.declared.shape.Strategy.{Strategy}
use Rattle.mama_event.specs.declared.market.SubKind.{SubKind}
use Rattle.mama_event.specs.declared.market.Quality.{Quality}
use Rattle.mama_event.specs.declared.market.Quality.TheVariants as quality
use Rattle.mama_event.specs.declared.market.MarketMsg.{MarketMsg}
use Rattle.mama_event.specs.declared.callback.Callback.{Callback}
use Rattle.mama_event.specs.declared.callback.Callback.TheVariants as on
use Rattle.mama_dq.specs.declared.table.Phase.{Phase}
use Rattle.mama_dq.specs.declared.table.Phase.TheVariants.{Await, LiveOk, LiveStale, LiveKept}
use Rattle.mama_dq.specs.declared.table.Action.{Action}
use Rattle.mama_dq.specs.declared.table.Action.TheVariants.{Keep, Start, Apply, ApplyKeep, KeepOnly, Ignore, Gap, Switch, Replace, Heal, Adopt, StartKeep, Catch, Late, KeepLate}
use Rattle.mama_dq.specs.Table.{is_update}
use Rattle.mama_dq.specs.Cache.{put}
use Rattle.mama_dq.specs.Context.{ContextData, new_context}
use Rattle.mama_dq.specs.Strategy.{waiting_for, action_of, after, callbacks_of, fold}

-- a message that was taken, and the context that took it
pub record Taken : Type 0 where
  pub context : ContextData
  pub message : MarketMsg

-- the last of some messages is there, and is of another sender
abbrev pub last_is_of_another : List Taken → ℕ → Bool
last_is_of_another [] sender = false
last_is_of_another (t ∷ []) sender = not (t.message.sender == sender)
last_is_of_another (t ∷ u ∷ ts) sender = last_is_of_another (u ∷ ts) sender

-- A message turns the subscription to its sender: at a switch, when it adopts another sender's image, and, before the
-- first image, at a message of another sender than that of the update taken before it.
abbrev pub turns_at : Action → List Taken → ℕ → Bool
turns_at Switch before sender = true
turns_at Adopt before sender = true
turns_at Keep before sender = last_is_of_another before sender
turns_at Start before sender = last_is_of_another before sender
turns_at StartKeep before sender = last_is_of_another before sender
turns_at Apply before sender = false
turns_at ApplyKeep before sender = false
turns_at KeepOnly before sender = false
turns_at Ignore before sender = false
turns_at Gap before sender = false
turns_at Replace before sender = false
turns_at Heal before sender = false
turns_at Catch before sender = false
turns_at Late before sender = false
turns_at KeepLate before sender = false

-- the stretch with one more message: it begins anew with a message that turns
abbrev pub stretched : List Taken → ContextData → MarketMsg → List Taken
stretched stretch c m = (if turns_at (action_of c m) stretch m.sender then [] else stretch) ++ record { context = c; message = m } ∷ []

-- the stretch after some more messages
abbrev pub stretch_after : List Taken → ContextData → List MarketMsg → List Taken
stretch_after stretch c [] = stretch
stretch_after stretch c (m ∷ ms) = stretch_after (stretched stretch c m) (after c m) ms

-- the stretch of the callbacks of a message: the messages taken from the last turn up to it, or from the first one
abbrev pub stretch_of : Strategy → SubKind → ℕ → List MarketMsg → MarketMsg → List Taken
stretch_of strategy kind size before m = stretched (stretch_after [] (new_context strategy kind size) before) (fold strategy kind size before) m

-- the message is an update of this sender with this number
abbrev pub is_update_numbered : ℕ → ℕ → Taken → Bool
is_update_numbered sender n t = is_update t.message.kind && (t.message.sender == sender && t.message.seq == n)

-- an update of this sender with this number was taken in the stretch
abbrev pub was_taken : ℕ → ℕ → List Taken → Bool
was_taken sender n stretch = list_any (is_update_numbered sender n) stretch

-- the lowest of some updates has this number
abbrev pub is_lowest : ℕ → List (ℕ × List FieldData) → Bool
is_lowest n [] = false
is_lowest n (e ∷ es) = e.0 == n

-- there is no image yet
abbrev pub is_waiting : Phase → Bool
is_waiting Await = true
is_waiting LiveOk = false
is_waiting LiveStale = false
is_waiting LiveKept = false

-- the cached updates with the taken one among them
abbrev pub with_taken : Taken → List (ℕ × List FieldData)
with_taken t = put (waiting_for t.message.sender t.context).cache.updates t.message.seq t.message.body

-- before the first image a full cache drops this number of this sender: with the update that was taken there are more
-- than its size, and the number is the lowest
abbrev pub drops : ℕ → ℕ → Taken → Bool
drops sender n t =
    (is_waiting t.context.phase && (is_update t.message.kind && t.message.sender == sender))
    && (nat_lt t.context.cache.size (length (with_taken t)) && is_lowest n (with_taken t))

-- Each entry that was added to the cache for this number in the stretch was dropped by a full cache before the first
-- image. An entry is added only where an update with its number is taken; so after each such update, at once or later,
-- the full cache dropped the number.
abbrev pub AreDropped : ℕ → ℕ → List Taken → Type 0
AreDropped sender n [] = Unit {0}
AreDropped sender n (t ∷ ts) = (is_update_numbered sender n t ≡ true → list_any (drops sender n) (t ∷ ts) ≡ true) × AreDropped sender n ts

-- a number of a gap is missing: no update with it was taken in the stretch
pub record IsMissing (stretch : List Taken) (sender first to n : ℕ) : Type 0 where
  pub from : first ≤ n
  pub up_to : n ≤ to
  pub untaken : was_taken sender n stretch ≡ false

-- a number of a gap is dropped: it was taken in the stretch, and each of its entries was dropped
pub record IsDropped (stretch : List Taken) (sender first to n : ℕ) : Type 0 where
  pub from : first ≤ n
  pub up_to : n ≤ to
  pub taken : was_taken sender n stretch ≡ true
  pub dropped : AreDropped sender n stretch

-- a gap that is told is not empty, and each of its numbers is missing or dropped
pub record IsTrueGap (stretch : List Taken) (sender first to : ℕ) : Type 0 where
  pub ordered : first ≤ to
  pub each : (n : ℕ) → first ≤ n → n ≤ to → IsMissing stretch sender first to n ⊎ IsDropped stretch sender first to n

-- a callback that tells a gap tells a true one
abbrev pub TellsTrueGap : List Taken → ℕ → Callback → Type 0
TellsTrueGap stretch sender (on.Gap first to) = IsTrueGap stretch sender first to
TellsTrueGap stretch sender on.Create = Unit {0}
TellsTrueGap stretch sender (on.Msg m q) = Unit {0}
TellsTrueGap stretch sender (on.Quality q n) = Unit {0}
TellsTrueGap stretch sender (on.RecapRequest s) = Unit {0}
TellsTrueGap stretch sender (on.Late s n) = Unit {0}
TellsTrueGap stretch sender (on.Error e) = Unit {0}
TellsTrueGap stretch sender on.Destroy = Unit {0}
TellsTrueGap stretch sender (on.Tick t) = Unit {0}
TellsTrueGap stretch sender (on.Reply b) = Unit {0}

-- Whatever messages a subscription took before, each gap that a message tells is a true gap of its sender.
abbrev pub GapLaw : Type 0
GapLaw = (strategy : Strategy) (kind : SubKind) (size : ℕ) (before : List MarketMsg) (m : MarketMsg)
    → AllByRecursion (TellsTrueGap (stretch_of strategy kind size before m) m.sender) (callbacks_of (fold strategy kind size before) m)

-- the callback says that the quality is stale
abbrev pub is_stale : Quality → Bool
is_stale quality.Ok = false
is_stale quality.Stale = true

abbrev pub says_stale : Callback → Bool
says_stale (on.Quality q n) = is_stale q
says_stale (on.Gap first to) = false
says_stale on.Create = false
says_stale (on.Msg m q) = false
says_stale (on.RecapRequest s) = false
says_stale (on.Late s n) = false
says_stale (on.Error e) = false
says_stale on.Destroy = false
says_stale (on.Tick t) = false
says_stale (on.Reply b) = false

-- the callback tells a gap
abbrev pub tells_gap : Callback → Bool
tells_gap (on.Gap first to) = true
tells_gap (on.Quality q n) = false
tells_gap on.Create = false
tells_gap (on.Msg m q) = false
tells_gap (on.RecapRequest s) = false
tells_gap (on.Late s n) = false
tells_gap (on.Error e) = false
tells_gap on.Destroy = false
tells_gap (on.Tick t) = false
tells_gap (on.Reply b) = false

-- each of some callbacks that says stale comes right after one that tells a gap; right before the first there was one, or not
abbrev pub stale_after_gap : Bool → List Callback → Bool
stale_after_gap gap [] = true
stale_after_gap gap (call ∷ calls) = (not (says_stale call) || gap) && stale_after_gap (tells_gap call) calls

-- Whatever messages a subscription took before, a message says that the quality is stale only right after it told a
-- gap, or at a switch.
abbrev pub StaleLaw : Type 0
StaleLaw = (strategy : Strategy) (kind : SubKind) (size : ℕ) (before : List MarketMsg) (m : MarketMsg)
    → (stale_after_gap false (callbacks_of (fold strategy kind size before) m) ≡ true) ⊎ (action_of (fold strategy kind size before) m ≡ Switch)
