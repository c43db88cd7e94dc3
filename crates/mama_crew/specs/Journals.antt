-- believed: That a record has the journals of some seats.
use Rattle.std.specs.Prelude.{◌≡◌, ℕ, List, [], ◌∷◌}
use Rattle.std.specs.List.{flat_map}
use Rattle.mama_event.specs.declared.publisher_entry.PublisherEntry.{PublisherEntry}
use Rattle.mama_event.specs.declared.to_bridge.BridgeNote.{BridgeNote}
use Rattle.mama_event.specs.declared.to_timers.TimersNote.{TimersNote}
use Rattle.mama_event.specs.declared.to_queue.QueueNote.{QueueNote}
use Rattle.mama_record.specs.RunData.{RunData}
use Rattle.mama_crew.specs.declared.seat.Seat.{Seat}
use Rattle.mama_crew.specs.declared.seat.Seat.TheVariants.{Client, Publisher, Bridge, Timers, Queue}

-- the moments that a client has read
abbrev pub moments_in : {L : Type 0} → Seat L → List (List ℕ)
moments_in (Client c seat) = seat.post.walk.read ∷ []
moments_in _ = []

-- the journal of a publisher, of the bridge, of the timer service, and of a queue
abbrev pub entries_in : {L : Type 0} → Seat L → List (List PublisherEntry)
entries_in (Publisher p post) = post.progress.journal ∷ []
entries_in _ = []

abbrev pub bridge_in : {L : Type 0} → Seat L → List (List (ℕ × BridgeNote))
bridge_in (Bridge post) = post.service.journal ∷ []
bridge_in _ = []

abbrev pub timers_in : {L : Type 0} → Seat L → List (List (ℕ × TimersNote))
timers_in (Timers post) = post.service.journal ∷ []
timers_in _ = []

abbrev pub events_in : {L : Type 0} → Seat L → List (List (ℕ × QueueNote))
events_in (Queue q post) = post.served.journal ∷ []
events_in _ = []

-- The record has the moments and the journals of the seats, in their order, and those of one bridge and of one timer service.
pub record AreJournalsOf {L : Type 0} (seats : List (Seat L)) (run : RunData) : Type 0 where
  pub clients : run.clients ≡ flat_map moments_in seats
  pub publishers : run.publishers ≡ flat_map entries_in seats
  pub bridge : run.bridge ∷ [] ≡ flat_map bridge_in seats
  pub timers : run.timers ∷ [] ≡ flat_map timers_in seats
  pub queues : run.queues ≡ flat_map events_in seats
