-- believed: One step of a context: what a message makes of it, and the callbacks of the message.
use Rattle.std.specs.Prelude.{ℕ, suc, ◌-◌, Bool, true, false, ◌==◌, nat_le, List, [], ◌∷◌, ◌++◌, if◌then◌else◌}
use Rattle.mama_msg.specs.Field.{FieldData}
use Rattle.mama_event.specs.declared.shape.Strategy.{Strategy}
use Rattle.mama_event.specs.declared.market.SubKind.{SubKind}
use Rattle.mama_event.specs.declared.market.SubKind.TheVariants.{Market, Snapshot, Basic}
use Rattle.mama_event.specs.declared.market.MsgKind.{MsgKind}
use Rattle.mama_event.specs.declared.market.MsgKind.TheVariants.{Update}
use Rattle.mama_event.specs.declared.market.MarketMsg.{MarketMsg}
use Rattle.mama_event.specs.declared.market.Quality.{Quality}
use Rattle.mama_event.specs.declared.market.Quality.TheVariants as quality
use Rattle.mama_event.specs.declared.callback.Callback.{Callback}
use Rattle.mama_event.specs.declared.callback.Callback.TheVariants as on
use Rattle.mama_dq.specs.declared.table.Phase.{Phase}
use Rattle.mama_dq.specs.declared.table.Phase.TheVariants.{Await, LiveOk, LiveStale, LiveKept}
use Rattle.mama_dq.specs.declared.table.Action.{Action}
use Rattle.mama_dq.specs.declared.table.Action.TheVariants.{Keep, Start, Apply, ApplyKeep, KeepOnly, Ignore, Gap, Switch, Replace, Heal, Adopt, StartKeep, Catch, Late, KeepLate}
use Rattle.mama_dq.specs.Table.{is_update, relation_of, decided}
use Rattle.mama_msg.specs.Message.{apply}
use Rattle.mama_dq.specs.Cache.{added, emptied, put, above, past, Reached, reached}
use Rattle.mama_dq.specs.Context.{ContextData, new_context, is_ok}

-- one step: the context after it, and the callbacks that it makes
pub record Step : Type 0 where
  pub context : ContextData
  pub calls : List Callback

-- a step that changes nothing
abbrev pub unchanged : ContextData → Step
unchanged c = record { context = c; calls = [] }

-- a step with some callbacks before its own
abbrev pub preceded_by : List Callback → Step → Step
preceded_by calls step = record step { calls = calls ++ step.calls }

-- callbacks that are made only if the image was the sender's record
abbrev pub if_ok : Phase → List Callback → List Callback
if_ok phase calls = if is_ok phase then calls else []

-- callbacks that are made only if the image could lack updates
abbrev pub if_stale : Phase → List Callback → List Callback
if_stale Await calls = []
if_stale LiveOk calls = []
if_stale LiveStale calls = calls
if_stale LiveKept calls = []

-- the phase of an image that is the sender's record, by the updates that are kept for a gap
abbrev pub ok_with : List (ℕ × List FieldData) → Phase
ok_with [] = LiveOk
ok_with (e ∷ es) = LiveKept

-- the context whose image is the sender's record at the last number: cached updates up to that number are dropped, and
-- the others are kept
abbrev pub settled : ContextData → ContextData
settled c = record c { phase = ok_with (above c.last c.cache.updates); cache = past c.last c.cache }

-- the context with an update applied to its image, which is then the last one in it
abbrev pub with_update : Phase → ContextData → MarketMsg → ContextData
with_update phase c m = record c { phase = phase; last = m.seq; image = apply c.image m.body }

-- the context with an update added to its cache
abbrev pub with_cached : ContextData → MarketMsg → ContextData
with_cached c m = record c { cache = added c.cache m.seq m.body }

-- the context for this sender, with nothing in the cache
abbrev pub turned_to : ℕ → ContextData → ContextData
turned_to sender c = record c { sender = sender; cache = emptied c.cache }

-- while there is no image, the context for an update of this sender: the cache is emptied, if it is another's
abbrev pub waiting_for : ℕ → ContextData → ContextData
waiting_for sender c = if c.sender == sender then c else turned_to sender c

-- the context with the body of an image message as its image
abbrev pub with_image_of : MarketMsg → ContextData → ContextData
with_image_of m c = record c { phase = LiveOk; last = m.seq; image = m.body }

-- the callback of an update that is not above the last number
abbrev pub late_calls : MarketMsg → List Callback
late_calls m = on.Late m.sender m.seq ∷ []

-- the callbacks of a message that finds the image stale: the quality and a recap only if the image was the record
abbrev pub stale_calls : Phase → ℕ → ℕ → MarketMsg → List Callback
stale_calls phase sender last m = if_ok phase (on.Quality quality.Stale last ∷ on.RecapRequest sender ∷ []) ++ on.Msg m quality.Stale ∷ []

-- the callbacks of an update before which some are missing
abbrev pub gap_calls : Phase → ℕ → ℕ → MarketMsg → List Callback
gap_calls phase sender last m = on.Gap (suc last) (m.seq - 1) ∷ stale_calls phase sender last m

-- the callbacks of another sender's update: the quality only if the image was the record
abbrev pub switch_calls : Phase → ℕ → MarketMsg → List Callback
switch_calls phase last m = if_ok phase (on.Quality quality.Stale last ∷ []) ++ on.RecapRequest m.sender ∷ on.Msg m quality.Stale ∷ []

-- the callbacks of another sender's image: the quality only if the image could lack updates
abbrev pub adopt_calls : Phase → MarketMsg → List Callback
adopt_calls phase m = on.Msg m quality.Ok ∷ if_stale phase (on.Quality quality.Ok m.seq ∷ [])

-- what one update does while there is an image; that of a gap for which updates are kept stands below, as `caught`
abbrev pub update_acted : Action → ContextData → MarketMsg → Step
update_acted Apply c m = record { context = settled (with_update LiveOk c m); calls = on.Msg m quality.Ok ∷ [] }
update_acted ApplyKeep c m = record { context = with_cached (with_update LiveStale c m) m; calls = on.Msg m quality.Stale ∷ [] }
update_acted KeepOnly c m = record { context = with_cached c m; calls = [] }
update_acted Gap c m = record { context = with_cached (with_update LiveStale c m) m; calls = gap_calls c.phase c.sender c.last m }
update_acted Switch c m = record { context = with_cached (with_update LiveStale (turned_to m.sender c) m) m; calls = switch_calls c.phase c.last m }
update_acted Late c m = record { context = c; calls = late_calls m }
update_acted KeepLate c m = record { context = with_cached c m; calls = late_calls m }
update_acted Ignore c m = unchanged c
update_acted Keep c m = unchanged c
update_acted Start c m = unchanged c
update_acted StartKeep c m = unchanged c
update_acted Catch c m = unchanged c
update_acted Replace c m = unchanged c
update_acted Heal c m = unchanged c
update_acted Adopt c m = unchanged c

-- the step of an update while there is an image
abbrev pub updated : ContextData → MarketMsg → Step
updated c m = update_acted (decided c.strategy c.phase (relation_of c.sender c.last m) true) c m

-- a cached update as the message that brought it
abbrev pub as_message : ℕ → ℕ × List FieldData → MarketMsg
as_message sender e = record { kind = Update; sender = sender; seq = e.0; body = e.1 }

-- the steps of cached updates of the context's sender, one after another
abbrev pub handled : ContextData → List (ℕ × List FieldData) → Step
handled c [] = unchanged c
handled c (e ∷ es) = preceded_by (updated c (as_message c.sender e)).calls (handled (updated c (as_message c.sender e)).context es)

-- the cached updates of an image message's sender that are numbered above it; those of another sender are dropped
abbrev pub cached_above : ContextData → MarketMsg → List (ℕ × List FieldData)
cached_above c m = if c.sender == m.sender then above m.seq c.cache.updates else []

-- the first image: the cache is taken out, and its updates above the image are handled
abbrev pub started : ContextData → MarketMsg → Step
started c m = preceded_by (on.Msg m quality.Ok ∷ []) (handled (with_image_of m (turned_to m.sender c)) (cached_above c m))

-- the first image: the cached updates of its sender that are numbered above it are kept, and no others
abbrev pub started_keeping : ContextData → MarketMsg → Step
started_keeping c m = record { context = settled (with_image_of m (waiting_for m.sender c)); calls = on.Msg m quality.Ok ∷ [] }

-- the first gap: the kept updates are taken out, and they and the update before which some are missing are handled,
-- ascending; a kept update with its number stays in its place
abbrev pub caught : ContextData → MarketMsg → Step
caught c m = handled (record c { phase = LiveOk; cache = emptied c.cache }) (put c.cache.updates m.seq m.body)

-- an image that reaches the last number is taken, and is the sender's record
abbrev pub reached_last : Reached → ContextData → MarketMsg → Step
reached_last r c m = record {
  context = record c { phase = LiveOk; last = r.number; image = r.body; cache = emptied c.cache };
  calls = on.Msg m quality.Ok ∷ on.Quality quality.Ok r.number ∷ [];
}

-- an image that does not is passed over, and a recap is asked for
abbrev pub stopped_short : ContextData → Step
stopped_short c = record { context = c; calls = on.RecapRequest c.sender ∷ [] }

-- an image while the own one may lack updates, by what it reaches with the cached updates that follow it without a hole
abbrev pub healed : Reached → ContextData → MarketMsg → Step
healed r c m = if nat_le c.last r.number then reached_last r c m else stopped_short c

-- what a message does, by its action
abbrev pub acted : Action → ContextData → MarketMsg → Step
acted Keep c m = record { context = with_cached (waiting_for m.sender c) m; calls = [] }
acted Start c m = started c m
acted StartKeep c m = started_keeping c m
acted Replace c m = record { context = settled (with_image_of m c); calls = on.Msg m quality.Ok ∷ [] }
acted Heal c m = healed (reached c.cache.updates m.seq m.body) c m
acted Adopt c m = record { context = with_image_of m (turned_to m.sender c); calls = adopt_calls c.phase m }
acted Apply c m = update_acted Apply c m
acted ApplyKeep c m = update_acted ApplyKeep c m
acted KeepOnly c m = update_acted KeepOnly c m
acted Ignore c m = unchanged c
acted Gap c m = update_acted Gap c m
acted Switch c m = update_acted Switch c m
acted Catch c m = caught c m
acted Late c m = update_acted Late c m
acted KeepLate c m = update_acted KeepLate c m

-- the action of a message in a market context
abbrev pub action_of : ContextData → MarketMsg → Action
action_of c m = decided c.strategy c.phase (relation_of c.sender c.last m) (is_update m.kind)

-- a snapshot takes the first image, and nothing else
abbrev pub snapshot_acted : Phase → Bool → ContextData → MarketMsg → Step
snapshot_acted Await false c m = record { context = with_image_of m (turned_to m.sender c); calls = on.Msg m quality.Ok ∷ [] }
snapshot_acted Await true c m = unchanged c
snapshot_acted LiveOk update c m = unchanged c
snapshot_acted LiveStale update c m = unchanged c
snapshot_acted LiveKept update c m = unchanged c

-- a message of a basic subscription is called back as it comes
abbrev pub passed : ContextData → MarketMsg → Step
passed c m = record { context = c; calls = on.Msg m quality.Ok ∷ [] }

-- one step of a context of this kind
abbrev pub step_by : SubKind → ContextData → MarketMsg → Step
step_by Market c m = acted (action_of c m) c m
step_by Snapshot c m = snapshot_acted c.phase (is_update m.kind) c m
step_by Basic c m = passed c m

-- the context after a message
abbrev pub after : ContextData → MarketMsg → ContextData
after c m = (step_by c.kind c m).context

-- the callbacks of a message
abbrev pub callbacks_of : ContextData → MarketMsg → List Callback
callbacks_of c m = (step_by c.kind c m).calls

-- the context after a list of messages
abbrev pub after_all : ContextData → List MarketMsg → ContextData
after_all c [] = c
after_all c (m ∷ ms) = after_all (after c m) ms

-- the context of a subscription of this strategy and this kind with a cache of this size after a list of messages
abbrev pub fold : Strategy → SubKind → ℕ → List MarketMsg → ContextData
fold strategy kind size messages = after_all (new_context strategy kind size) messages

-- the callbacks of each message of a list
abbrev pub calls_after : ContextData → List MarketMsg → List (List Callback)
calls_after c [] = []
calls_after c (m ∷ ms) = callbacks_of c m ∷ calls_after (after c m) ms

-- the callbacks of each message of a list, in the order of the messages, from the beginning of such a subscription
abbrev pub calls_of_fold : Strategy → SubKind → ℕ → List MarketMsg → List (List Callback)
calls_of_fold strategy kind size messages = calls_after (new_context strategy kind size) messages
