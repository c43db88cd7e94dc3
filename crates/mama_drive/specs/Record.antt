-- inner: The record of a scene.
use Rattle.std.specs.Prelude.{ℕ, List, [], map, slice_index_or}
use Rattle.mama_event.specs.declared.ids.ObjectId.{ObjectId}
use Rattle.mama_event.specs.declared.ids.ObjectId.TheVariants.{Sub, Timer, Inbox}
use Rattle.mama_event.specs.declared.to_queue.QueueNote.{QueueNote}
use Rattle.mama_rules_queue.specs.Queue.{deeds, calls_of}
use Rattle.mama_record.specs.RunData.{RunData, ObjectCalls, LastImage}
use Rattle.mama_rules_rounds.specs.Client.{Planned}
use Rattle.mama_rules_rounds.specs.Told.{noted}
use Rattle.mama_rules_rounds.specs.Round.{record_of}
use Rattle.mama_plans.specs.Orders.{orders_in}
use Rattle.mama_plans.specs.Image.{image_of}
use Rattle.mama_seats.specs.Stand.{Stand}
use Rattle.mama_drive.specs.Scene.{Scene, setting_in, world_in}

abbrev pub read_in : Stand → List ℕ
read_in c = c.read

-- the journal of one queue
abbrev pub journal_at : List (List (ℕ × QueueNote)) → ℕ → List (ℕ × QueueNote)
journal_at queues q = slice_index_or queues q []

-- the callbacks of an object by the journals of the queues, where these objects are planned
abbrev pub calls_by : List Planned → List (List (ℕ × QueueNote)) → Planned → ObjectCalls
calls_by objects queues p = record { object = p.object; calls = map noted (calls_of p.object (deeds (orders_in objects) (journal_at queues p.queue))) }

-- the last image of a subscription on the queue with this journal
abbrev pub image_by : List Planned → List (ℕ × QueueNote) → ObjectId → List LastImage
image_by objects journal (Sub s) = image_of objects journal s
image_by objects journal (Timer t) = []
image_by objects journal (Inbox i) = []

abbrev pub images_by : List Planned → List (List (ℕ × QueueNote)) → Planned → List LastImage
images_by objects queues p = image_by objects (journal_at queues p.queue) p.object

-- the record of a scene
abbrev pub recorded : Scene → RunData
recorded s = record_of (setting_in s) (map read_in s.clients) (world_in s)
