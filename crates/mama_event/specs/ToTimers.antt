-- believed: what the timer service takes, as plain data, and what its ports may put.
use Rattle.std.specs.Prelude.{Bool, true, false, nat_lt, List}
use Rattle.mama_event.specs.declared.ids.ObjectId.{ObjectId}
use Rattle.mama_event.specs.declared.shape.Bounds.{Bounds}
use Rattle.mama_event.specs.declared.to_timers.ToTimers.{ToTimers}
use Rattle.mama_event.specs.declared.to_timers.ToTimers.TheVariants as event
use Rattle.mama_event.specs.declared.to_timers.TimersNote.{TimersNote}
use Rattle.mama_event.specs.declared.to_timers.TimersNote.TheVariants as note

-- the note of an event: the same data, with the listener's tag in place of the listener
abbrev pub note_of : {L : Type 0} → (L → ObjectId) → ToTimers L → TimersNote
note_of tagged (event.Arm timer queue interval listener) = note.Arm timer queue interval (tagged listener)
note_of tagged (event.Disarm timer) = note.Disarm timer
note_of tagged (event.Now moment) = note.Now moment
note_of tagged event.ClientDone = note.ClientDone
note_of tagged event.Bye = note.Bye
note_of tagged event.Fin = note.Fin

-- nothing follows a ClientDone, a Bye or a Fin
abbrev pub is_last : TimersNote → Bool
is_last (note.Arm timer queue interval tag) = false
is_last (note.Disarm timer) = false
is_last (note.Now moment) = false
is_last note.ClientDone = true
is_last note.Bye = true
is_last note.Fin = true

-- the queue that an event names is there
abbrev pub is_within : Bounds → TimersNote → Bool
is_within bounds (note.Arm timer queue interval tag) = nat_lt queue bounds.queues
is_within bounds (note.Disarm timer) = true
is_within bounds (note.Now moment) = true
is_within bounds note.ClientDone = true
is_within bounds note.Bye = true
is_within bounds note.Fin = true

-- what a port puts names queues that are there, whatever it put before
abbrev pub fits : Bounds → List TimersNote → TimersNote → Bool
fits bounds before n = is_within bounds n
