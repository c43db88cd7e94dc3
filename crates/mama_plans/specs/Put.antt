-- believed: What a client puts, as plain data.
use Rattle.std.specs.Prelude.{List, map}
use Rattle.mama_event.specs.declared.ids.ObjectId.{ObjectId}
use Rattle.mama_event.specs.declared.to_service.ToService.{ToService}
use Rattle.mama_event.specs.declared.to_service.ToService.TheVariants as out
use Rattle.mama_event.specs.ToBridge.{note_of as bridge_note_of}
use Rattle.mama_event.specs.ToTimers.{note_of as timers_note_of}
use Rattle.mama_rules_queue.specs.Queue.{QueuePut, to_bridge, to_timers}

-- the tag of a listener that is an object's id is that id
abbrev pub own_tag : ObjectId → ObjectId
own_tag object = object

abbrev pub note_of : ToService ObjectId → QueuePut
note_of (out.Bridge event) = to_bridge (bridge_note_of own_tag event)
note_of (out.Timers event) = to_timers (timers_note_of own_tag event)

abbrev pub notes_of : List (ToService ObjectId) → List QueuePut
notes_of puts = map note_of puts
