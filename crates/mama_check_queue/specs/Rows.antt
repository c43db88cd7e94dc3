-- inner: The objects that a journal told of, each with its row.
use Rattle.std.specs.Prelude.{◌≡◌, ℕ, List, [], ◌∷◌, if◌then◌else◌}
use Rattle.mama_event.specs.declared.ids.ObjectId.{ObjectId}
use Rattle.mama_event.specs.declared.to_queue.QueueNote.{QueueNote}
use Rattle.mama_event.specs.Object.{same_object}
use Rattle.mama_rules_queue.specs.Queue.{Deed}
use Rattle.mama_check_queue.specs.declared.seen.Seen.{Seen}
use Rattle.mama_check_queue.specs.Seen.{SeenData, unseen, seen_of}

-- a row, without where its parts lie in memory
abbrev pub seen_data : Seen → SeenData
seen_data r = record { make = r.make; live = r.live; muted = r.muted; calls = r.calls.items; context = r.context; waiting = r.waiting.items }

-- the objects, and their rows in the same order
pub record SeenObjects : Type 0 where
  pub ids : List ObjectId
  pub rows : List SeenData

-- the row of an object; one that has none is one of which nothing came
abbrev pub row_of : ObjectId → List ObjectId → List SeenData → SeenData
row_of x [] rows = unseen
row_of x (o ∷ os) [] = unseen
row_of x (o ∷ os) (r ∷ rs) = if same_object x o then r else row_of x os rs

abbrev pub seen_in : SeenObjects → ObjectId → SeenData
seen_in s x = row_of x s.ids s.rows

-- the rows are those that a journal and the deeds of its queue tell
pub record AreSeen (journal : List (ℕ × QueueNote)) (ds : List Deed) (s : SeenObjects) : Type 0 where
  pub each : (x : ObjectId) → seen_in s x ≡ seen_of x journal ds
