-- believed: What a queue gives up at its end: what it took, the callbacks of each object, and the images that were left.
use Rattle.std.specs.Prelude.{ℕ, List, map}
use Rattle.std.specs.Global.{Vec}
use Rattle.mama_event.specs.declared.ids.ObjectId.{ObjectId}
use Rattle.mama_event.specs.declared.callback.CallNote.{CallNote}
use Rattle.mama_event.specs.declared.order.Order.{Order}
use Rattle.mama_event.specs.declared.to_queue.QueueNote.{QueueNote}
use Rattle.mama_rules_queue.specs.Queue.{deeds}
use Rattle.mama_dispatch.specs.Journals.{born, notes_of}

-- the objects that were made here, in the order of their Creates
abbrev pub objects_made : List (ℕ × QueueNote) → List ObjectId
objects_made journal = map (λ b. b.object) (born journal)

-- each object that was made here with the notes of its callbacks, in the order of the Creates
abbrev pub calls_made : (ObjectId → ℕ → List Order) → List (ℕ × QueueNote) → List (ObjectId × List CallNote)
calls_made orders journal = map (λ o. (o, notes_of o (deeds orders journal))) (objects_made journal)

-- objects with their lists of notes, as plain data
abbrev pub lists_of : List (ObjectId × Vec CallNote) → List (ObjectId × List CallNote)
lists_of calls = map (λ c. (c.0, c.1.items)) calls
