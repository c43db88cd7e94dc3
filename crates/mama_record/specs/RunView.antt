-- believed: A run record as it lies in memory, seen as plain data.
use Rattle.std.specs.Prelude.{ℕ, List, map}
use Rattle.std.specs.Global.{Vec}
use Rattle.mama_msg.specs.Field.{FieldData}
use Rattle.mama_event.specs.declared.ids.ObjectId.{ObjectId}
use Rattle.mama_event.specs.declared.ids.SubId.{SubId}
use Rattle.mama_event.specs.declared.market.ImageHead.{ImageHead}
use Rattle.mama_event.specs.declared.callback.CallNote.{CallNote}
use Rattle.mama_event.specs.declared.group.GroupNote.{GroupNote}
use Rattle.mama_event.specs.declared.watch.WatchNote.{WatchNote}
use Rattle.mama_event.specs.declared.to_queue.QueueNote.{QueueNote}
use Rattle.mama_event.specs.declared.publisher_entry.PublisherEntry.{PublisherEntry}
use Rattle.mama_record.specs.RunData.{RunData, ObjectCalls, LastImage, GroupNotes, WatchNotes}
use Rattle.mama_record.specs.declared.record.RunRecord.TheInside.{Inside}

abbrev pub moments_of : List (Vec ℕ) → List (List ℕ)
moments_of clients = map (λ c. c.items) clients

abbrev pub entries_of : List (Vec PublisherEntry) → List (List PublisherEntry)
entries_of publishers = map (λ p. p.items) publishers

abbrev pub events_of : List (Vec (ℕ × QueueNote)) → List (List (ℕ × QueueNote))
events_of queues = map (λ q. q.items) queues

abbrev pub calls_in : ObjectId × Vec CallNote → ObjectCalls
calls_in c = record { object = c.0; calls = c.1.items }

abbrev pub calls_of : List (ObjectId × Vec CallNote) → List ObjectCalls
calls_of objects = map calls_in objects

abbrev pub image_in : SubId × ImageHead × List FieldData → LastImage
image_in i = record { sub = i.0; head = i.1; body = i.2 }

abbrev pub images_of : List (SubId × ImageHead × List FieldData) → List LastImage
images_of images = map image_in images

abbrev pub group_in : ℕ × Vec GroupNote → GroupNotes
group_in g = record { group = g.0; notes = g.1.items }

abbrev pub groups_of : List (ℕ × Vec GroupNote) → List GroupNotes
groups_of groups = map group_in groups

abbrev pub watch_in : ℕ × Vec WatchNote → WatchNotes
watch_in w = record { watch = w.0; notes = w.1.items }

abbrev pub watches_of : List (ℕ × Vec WatchNote) → List WatchNotes
watches_of watches = map watch_in watches

abbrev pub run_of : Inside → RunData
run_of r = record {
  clients = moments_of r.clients.items;
  publishers = entries_of r.publishers.items;
  bridge = r.bridge.items;
  timers = r.timers.items;
  queues = events_of r.queues.items;
  calls = calls_of r.calls.items;
  images = images_of r.images.items;
  groups = groups_of r.groups.items;
  watches = watches_of r.watches.items;
}
