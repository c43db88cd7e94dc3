-- believed: What the service puts, as plain data, and the listeners that go with it.
use Rattle.std.specs.Prelude.{ℕ, Bool, true, false, List, [], ◌∷◌}
use Rattle.std.specs.List.{flat_map, list_any}
use Rattle.mama_event.specs.declared.ids.ObjectId.{ObjectId}
use Rattle.mama_event.specs.declared.to_queue.ToQueue.{ToQueue}
use Rattle.mama_event.specs.declared.to_queue.ToQueue.TheVariants as event
use Rattle.mama_event.specs.declared.to_queue.QueueNote.{QueueNote}
use Rattle.mama_event.specs.declared.to_queue.QueueNote.TheVariants as q
use Rattle.mama_event.specs.declared.to_timers.ToTimers.{ToTimers}
use Rattle.mama_event.specs.declared.to_timers.ToTimers.TheVariants as took
use Rattle.mama_event.specs.ToQueue.{note_of}
use Rattle.mama_timer.specs.declared.out.TimerOut.{TimerOut}

module _ {L : Type 0} where
  -- an event as plain data, with its queue's number
  abbrev pub out_note : (L → ObjectId) → TimerOut L → ℕ × QueueNote
  out_note tagged out = (out.queue, note_of tagged out.event)

  -- the listener that a Create carries
  abbrev pub listener_in : ToQueue L → List L
  listener_in (event.Create slot object make listener) = listener ∷ []
  listener_in (event.Deliver slot sub msg) = []
  listener_in (event.Reply slot inbox body) = []
  listener_in (event.Tick slot timer moment) = []
  listener_in (event.Gone slot object) = []
  listener_in event.Fin = []

  -- the listeners that the Creates carry, in order
  abbrev pub listeners : List (TimerOut L) → List L
  listeners outs = flat_map (λ out. listener_in out.event) outs

  -- the listener that an event brings
  abbrev pub brought : ToTimers L → List L
  brought (took.Arm timer queue interval listener) = listener ∷ []
  brought (took.Disarm timer) = []
  brought (took.Now moment) = []
  brought took.ClientDone = []
  brought took.Bye = []
  brought took.Fin = []

-- whether a put is a Create
abbrev pub is_create : QueueNote → Bool
is_create (q.Create slot object make tag) = true
is_create _ = false

abbrev pub puts_create : List (ℕ × QueueNote) → Bool
puts_create puts = list_any (λ put. is_create put.1) puts
