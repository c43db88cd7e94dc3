-- inner: What waits on a queue's lane, as notes.
use Rattle.std.specs.Prelude.{ℕ, List, map}
use Rattle.mama_event.specs.declared.ids.ObjectId.{ObjectId}
use Rattle.mama_event.specs.declared.to_queue.ToQueue.{ToQueue}
use Rattle.mama_event.specs.declared.to_queue.QueueNote.{QueueNote}
use Rattle.mama_event.specs.ToQueue.{note_of}
use Rattle.mama_plans.specs.Put.{own_tag}

abbrev pub lane_note : ℕ × ToQueue ObjectId → ℕ × QueueNote
lane_note e = (e.0, note_of own_tag e.1)

abbrev pub lane_notes : List (ℕ × ToQueue ObjectId) → List (ℕ × QueueNote)
lane_notes events = map lane_note events
