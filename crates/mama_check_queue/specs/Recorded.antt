-- believed: What a record has of callbacks and last images, beside what the journals of the queues say.
use Rattle.std.specs.Prelude.{◌≡◌, ℕ, List, [], map, slice_index_or}
use Rattle.std.specs.List.{All}
use Rattle.mama_event.specs.declared.ids.ObjectId.{ObjectId}
use Rattle.mama_event.specs.declared.ids.ObjectId.TheVariants.{Sub, Timer, Inbox}
use Rattle.mama_event.specs.declared.to_queue.QueueNote.{QueueNote}
use Rattle.mama_rules_queue.specs.Queue.{calls_of, deeds}
use Rattle.mama_record.specs.RunData.{ObjectCalls, LastImage}
use Rattle.mama_rules_rounds.specs.Client.{Planned}
use Rattle.mama_rules_rounds.specs.Told.{noted}
use Rattle.mama_plans.specs.Orders.{orders_in}
use Rattle.mama_check_queue.specs.Served.{ServedData, last_image_of}

-- the journals of queues
abbrev pub journals_of : List ServedData → List (List (ℕ × QueueNote))
journals_of served = map (λ s. s.journal) served

-- the listeners of all queues follow the plans of these objects
abbrev pub AreOf : List Planned → List ServedData → Type 0
AreOf objects served = All (λ s. s.objects ≡ objects) served

-- the callbacks of an object by the journals of the queues, where these objects are planned
abbrev pub calls_by : List Planned → List (List (ℕ × QueueNote)) → Planned → ObjectCalls
calls_by objects queues p = record { object = p.object; calls = map noted (calls_of p.object (deeds (orders_in objects) (slice_index_or queues p.queue []))) }

-- the last image of an object by the journal of its queue; only a subscription has one
abbrev pub image_by : List Planned → List (ℕ × QueueNote) → ObjectId → List LastImage
image_by objects journal (Sub s) = last_image_of (record { objects = objects; groups = []; watches = []; journal = journal }) s
image_by objects journal (Timer t) = []
image_by objects journal (Inbox i) = []

abbrev pub images_by : List Planned → List (List (ℕ × QueueNote)) → Planned → List LastImage
images_by objects queues p = image_by objects (slice_index_or queues p.queue []) p.object
