-- believed: where an object stands by its Create among what was put, what is put there, and the slot that a new one gets.
use Rattle.std.specs.Prelude.{ℕ, ◌==◌, List, [], ◌∷◌, Option, None, Some, if◌then◌else◌}
use Rattle.std.specs.List.{flat_map}
use Rattle.mama_journal.specs.Journal.{least_free}
use Rattle.mama_event.specs.declared.ids.ObjectId.{ObjectId}
use Rattle.mama_event.specs.declared.to_queue.QueueNote.{QueueNote}
use Rattle.mama_event.specs.declared.to_queue.QueueNote.TheVariants as q
use Rattle.mama_event.specs.Object.{same_object}

-- the queue and the slot of an object, by its Create
abbrev pub created_by : ObjectId → ℕ → QueueNote → Option (ℕ × ℕ)
created_by o queue (q.Create slot object make tag) = if same_object object o then Some (queue, slot) else None
created_by o queue _ = None

-- an event to the queue of an object, which is told its slot
abbrev pub at_place : {P : Type 0} → (ℕ → QueueNote → P) → Option (ℕ × ℕ) → (ℕ → QueueNote) → List P
at_place put None event = []
at_place put (Some place) event = put place.0 (event place.1) ∷ []

-- the slot of a place on this queue
abbrev pub slot_on : ℕ → Option (ℕ × ℕ) → List ℕ
slot_on queue None = []
slot_on queue (Some place) = if place.0 == queue then place.1 ∷ [] else []

-- the least slot of a queue on which none of these objects stands
abbrev pub least_slot : {I : Type 0} → (I → Option (ℕ × ℕ)) → List I → ℕ → ℕ
least_slot place objects queue = least_free (flat_map (λ o. slot_on queue (place o)) objects)
