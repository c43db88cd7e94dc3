-- inner: What waits on the lanes of the bridge and of the timer service, as plain data.
use Rattle.std.specs.Prelude.{ℕ}
use Rattle.mama_event.specs.declared.ids.ObjectId.{ObjectId}
use Rattle.mama_event.specs.declared.to_bridge.ToBridge.{ToBridge}
use Rattle.mama_event.specs.declared.to_bridge.BridgeNote.{BridgeNote}
use Rattle.mama_event.specs.declared.to_timers.ToTimers.{ToTimers}
use Rattle.mama_event.specs.declared.to_timers.TimersNote.{TimersNote}
use Rattle.mama_event.specs.declared.to_queue.ToQueue.{ToQueue}
use Rattle.mama_event.specs.declared.to_queue.QueueNote.{QueueNote}
use Rattle.mama_event.specs.ToBridge as bridge
use Rattle.mama_event.specs.ToTimers as timers
use Rattle.mama_event.specs.ToQueue as queue
use Rattle.mama_plans.specs.Put.{own_tag}

abbrev pub bridge_entry : ℕ × ToBridge ObjectId → ℕ × BridgeNote
bridge_entry e = (e.0, bridge.note_of own_tag e.1)

abbrev pub timers_entry : ℕ × ToTimers ObjectId → ℕ × TimersNote
timers_entry e = (e.0, timers.note_of own_tag e.1)

abbrev pub queue_entry : ℕ × ToQueue ObjectId → ℕ × QueueNote
queue_entry e = (e.0, queue.note_of own_tag e.1)
