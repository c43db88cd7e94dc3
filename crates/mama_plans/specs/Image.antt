-- believed: The last image of a subscription, by the journal of its queue.
use Rattle.std.specs.Prelude.{ℕ, List, [], ◌∷◌, Option, Some, None}
use Rattle.mama_journal.specs.Journal.{first_said}
use Rattle.mama_msg.specs.Field.{FieldData}
use Rattle.mama_event.specs.declared.ids.SubId.{SubId}
use Rattle.mama_event.specs.declared.ids.ObjectId.TheVariants.{Sub}
use Rattle.mama_event.specs.declared.market.ImageHead.{ImageHead}
use Rattle.mama_event.specs.declared.to_queue.QueueNote.{QueueNote}
use Rattle.mama_rules_queue.specs.Queue.{deeds, messages_of, context_of, make_in}
use Rattle.mama_record.specs.RunData.{LastImage}
use Rattle.mama_rules_rounds.specs.Client.{Planned}
use Rattle.mama_rules_rounds.specs.Told.{image_in}
use Rattle.mama_plans.specs.Orders.{orders_in}

-- an image that was found, as the record has it
abbrev pub found_image : SubId → Option (ImageHead × List FieldData) → List LastImage
found_image s None = []
found_image s (Some image) = record { sub = s; head = image.0; body = image.1 } ∷ []

-- the last image of a subscription of the queue with this journal, if it has one, where these objects are planned
abbrev pub image_of : List Planned → List (ℕ × QueueNote) → SubId → List LastImage
image_of objects journal s = image_in s (context_of (first_said (λ e. make_in (Sub s) e.1) journal) (messages_of s (deeds (orders_in objects) journal)))
