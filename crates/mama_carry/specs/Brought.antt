-- believed: The listener that an event brings, if it brings one.
use Rattle.std.specs.Prelude.{Bool, true, false, List, [], ◌∷◌, Option, None, Some, ◌&&◌}
use Rattle.mama_event.specs.declared.ids.ObjectId.{ObjectId}
use Rattle.mama_event.specs.declared.to_bridge.ToBridge.{ToBridge}
use Rattle.mama_event.specs.declared.to_bridge.ToBridge.TheVariants as bridge
use Rattle.mama_event.specs.declared.to_timers.ToTimers.{ToTimers}
use Rattle.mama_event.specs.declared.to_timers.ToTimers.TheVariants as timers
use Rattle.mama_event.specs.declared.to_queue.ToQueue.{ToQueue}
use Rattle.mama_event.specs.declared.to_queue.ToQueue.TheVariants as queue
use Rattle.mama_event.specs.Object.{same_object}

-- the listener that an event brings to the bridge
abbrev pub brought_to_bridge : {L : Type 0} → ToBridge L → List L
brought_to_bridge (bridge.Join sub terms listener) = listener ∷ []
brought_to_bridge (bridge.OpenInbox inbox terms listener) = listener ∷ []
brought_to_bridge _ = []

-- and to the timer service
abbrev pub brought_to_timers : {L : Type 0} → ToTimers L → List L
brought_to_timers (timers.Arm timer queue interval listener) = listener ∷ []
brought_to_timers _ = []

-- and to a queue, with its object
abbrev pub brought_to_queue : {L : Type 0} → ToQueue L → Option (ObjectId × L)
brought_to_queue (queue.Create slot object make listener) = Some (object, listener)
brought_to_queue _ = None

-- an event to a queue with another listener in the place of the one that it brings
abbrev pub with_listener : {L M : Type 0} → (L → M) → ToQueue L → ToQueue M
with_listener f (queue.Create slot object make listener) = queue.Create slot object make (f listener)
with_listener f (queue.Deliver slot sub msg) = queue.Deliver slot sub msg
with_listener f (queue.Reply slot inbox body) = queue.Reply slot inbox body
with_listener f (queue.Tick slot timer moment) = queue.Tick slot timer moment
with_listener f (queue.Gone slot object) = queue.Gone slot object
with_listener f queue.Fin = queue.Fin

-- some objects begin with others
abbrev pub begins_with : List ObjectId → List ObjectId → Bool
begins_with objects [] = true
begins_with [] (o ∷ os) = false
begins_with (p ∷ ps) (o ∷ os) = begins_with ps os && same_object p o
