-- believed: What the bridge puts on lanes, as plain data and as the listeners that go with it.
use Rattle.std.specs.Prelude.{Bool, true, false, List, [], ◌∷◌}
use Rattle.std.specs.List.{flat_map}
use Rattle.mama_event.specs.declared.ids.ObjectId.{ObjectId}
use Rattle.mama_event.specs.declared.to_queue.ToQueue.{ToQueue}
use Rattle.mama_event.specs.declared.to_queue.ToQueue.TheVariants as queued
use Rattle.mama_event.specs.declared.to_queue.QueueNote.TheVariants as q
use Rattle.mama_event.specs.declared.to_timers.ToTimers.{ToTimers}
use Rattle.mama_event.specs.declared.to_timers.ToTimers.TheVariants as timed
use Rattle.mama_event.specs.declared.to_bridge.ToBridge.{ToBridge}
use Rattle.mama_event.specs.declared.to_bridge.ToBridge.TheVariants as event
use Rattle.mama_event.specs.ToQueue.{note_of as queue_note_of}
use Rattle.mama_event.specs.ToPublisher.{note_of as publisher_note_of}
use Rattle.mama_event.specs.ToTimers.{note_of as timers_note_of}
use Rattle.mama_rules_services.specs.Bridge.{BridgePut, to_publisher, to_queue, to_timers}
use Rattle.mama_bridge.specs.declared.out.BridgeOut.{BridgeOut}
use Rattle.mama_bridge.specs.declared.out.BridgeOut.TheVariants as out

module _ {L : Type 0} where
  -- what was put, as plain data
  abbrev pub put_note : (L → ObjectId) → BridgeOut L → BridgePut
  put_note tagged (out.Publisher number event) = to_publisher number (publisher_note_of event)
  put_note tagged (out.Queue number event) = to_queue number (queue_note_of tagged event)
  put_note tagged (out.Timers event) = to_timers (timers_note_of tagged event)

  -- the listener that an event carries, if it carries one
  abbrev pub queued_listener : ToQueue L → List L
  queued_listener (queued.Create slot object made listener) = listener ∷ []
  queued_listener _ = []

  abbrev pub timed_listener : ToTimers L → List L
  timed_listener (timed.Arm timer queue interval listener) = listener ∷ []
  timed_listener _ = []

  abbrev pub listener_in : BridgeOut L → List L
  listener_in (out.Publisher number event) = []
  listener_in (out.Queue number event) = queued_listener event
  listener_in (out.Timers event) = timed_listener event

  -- the listeners of a list, in order
  abbrev pub listeners : List (BridgeOut L) → List L
  listeners outs = flat_map listener_in outs

  -- the listener that an event brought to the bridge
  abbrev pub brought : ToBridge L → List L
  brought (event.Join sub terms listener) = listener ∷ []
  brought (event.OpenInbox inbox terms listener) = listener ∷ []
  brought _ = []

-- whether a put makes an object
abbrev pub is_create : BridgePut → Bool
is_create (to_queue queue (q.Create slot object made tag)) = true
is_create _ = false
