-- believed: what a record has of each object, group and watch, by the journal of its queue.
use Rattle.std.specs.Prelude.{ℕ, List, [], ◌∷◌, map, slice_index_or}
use Rattle.mama_journal.specs.Journal.{first_said}
use Rattle.mama_event.specs.declared.ids.ObjectId.{ObjectId}
use Rattle.mama_event.specs.declared.to_queue.QueueNote.{QueueNote}
use Rattle.mama_event.specs.declared.order.Order.{Order}
use Rattle.mama_event.specs.declared.ids.SubId.{SubId}
use Rattle.mama_rules_queue.specs.Queue.{deeds, calls_of, messages_of, context_of, make_in}
use Rattle.mama_rules_queue.specs.Watch.{watch_notes}
use Rattle.mama_rules_rounds.specs.Client.{Planned}
use Rattle.mama_event.specs.declared.ids.ObjectId.TheVariants.{Sub}
use Rattle.mama_event.specs.declared.market.SubKind.{SubKind}
use Rattle.mama_event.specs.declared.market.SubKind.TheVariants.{Basic}
use Rattle.mama_event.specs.declared.callback.Callback.{Callback}
use Rattle.mama_event.specs.declared.callback.CallNote.{CallNote}
use Rattle.mama_dq.specs.Context.{ContextData, quality_in}
use Rattle.mama_dq.specs.declared.table.Phase.{Phase}
use Rattle.mama_dq.specs.declared.table.Phase.TheVariants.{Await, LiveOk, LiveStale, LiveKept}
use Rattle.mama_rules_queue.specs.Group.{group_notes}
use Rattle.mama_record.specs.RunData.{ObjectCalls, LastImage, GroupNotes, WatchNotes}
use Rattle.mama_rules_rounds.specs.Setting.{Grouped, Watched, Setting, orders_by}

-- the callbacks of an object by the journal of its queue
abbrev pub noted : Callback × List Order → CallNote
noted c = record { call = c.0; orders = c.1 }

abbrev pub object_calls : Setting → List (List (ℕ × QueueNote)) → Planned → ObjectCalls
object_calls setting queues p = record {
  object = p.object;
  calls = map noted (calls_of p.object (deeds (orders_by setting) (slice_index_or queues p.queue [])));
}

-- the image in a context, if it has one
abbrev pub image_in : SubId → ContextData → List LastImage
image_in s c = imaged c.phase c.kind
  where
    with_quality : Phase → List LastImage
    with_quality Await = []
    with_quality LiveOk = record { sub = s; head = record { sender = c.sender; last = c.last; quality = quality_in LiveOk }; body = c.image } ∷ []
    with_quality LiveStale = record { sub = s; head = record { sender = c.sender; last = c.last; quality = quality_in LiveStale }; body = c.image } ∷ []
    with_quality LiveKept = record { sub = s; head = record { sender = c.sender; last = c.last; quality = quality_in LiveKept }; body = c.image } ∷ []

    imaged : Phase → SubKind → List LastImage
    imaged phase Basic = []
    imaged phase _ = with_quality phase

-- the last image of a subscription by the journal of its queue
abbrev pub last_image : Setting → List (List (ℕ × QueueNote)) → Planned → List LastImage
last_image setting queues p = of_object p.object
  where
    of_sub : SubId → List (ℕ × QueueNote) → List LastImage
    of_sub s journal = image_in s (context_of (first_said (λ e. make_in (Sub s) e.1) journal) (messages_of s (deeds (orders_by setting) journal)))

    of_object : ObjectId → List LastImage
    of_object (Sub s) = of_sub s (slice_index_or queues p.queue [])
    of_object _ = []

-- what a group hears by the journal of its queue
abbrev pub group_told : Setting → List (List (ℕ × QueueNote)) → Grouped → GroupNotes
group_told setting queues g = record { group = g.number; notes = group_notes (orders_by setting) g.members (slice_index_or queues g.queue []) }

-- what a watch notes by the journal of its queue
abbrev pub watch_told : Setting → List (List (ℕ × QueueNote)) → Watched → WatchNotes
watch_told setting queues w = record { watch = w.number; notes = watch_notes (orders_by setting) w.row (slice_index_or queues w.queue []) }
