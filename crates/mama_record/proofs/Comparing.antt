-- Lists in memory are compared as the lists that they hold.
use Rattle.std.proofs.Common.{◌≡◌, ℕ, List}
use Rattle.std.specs.Cmp.Derive.Mapped.{pointwise-map}
use Rattle.std.specs.Cmp.Lexicographic.{pointwise}
use Rattle.std.specs.Global.{Vec}
use Rattle.std.specs.Str.{bytes_eq}
use Rattle.mama_msg.specs.Field.{FieldData}
use Rattle.mama_event.specs.declared.ids.ObjectId.{ObjectId}
use Rattle.mama_event.specs.declared.ids.SubId.{SubId}
use Rattle.mama_event.specs.declared.market.ImageHead.{ImageHead}
use Rattle.mama_event.specs.declared.callback.CallNote.{CallNote}
use Rattle.mama_event.specs.declared.group.GroupNote.{GroupNote}
use Rattle.mama_event.specs.declared.watch.WatchNote.{WatchNote}
use Rattle.mama_event.specs.declared.publisher_entry.PublisherEntry.{PublisherEntry}
use Rattle.mama_event.specs.declared.to_queue.QueueNote.{QueueNote}
use Rattle.mama_record.specs.RunView.{moments_of, entries_of, events_of, calls_in, calls_of, image_in, images_of, group_in, groups_of, watch_in, watches_of}
use Rattle.mama_record.specs.Equality.{same_publisher_journal, same_queue_journal, same_calls, same_image, same_group, same_watch}

pub moments_compared : (a b : List (Vec ℕ)) → pointwise bytes_eq (moments_of a) (moments_of b) ≡ pointwise (λ x y. bytes_eq x.items y.items) a b
moments_compared a b = pointwise-map (λ (v : Vec ℕ). v.items) bytes_eq a b

pub entries_compared : (a b : List (Vec PublisherEntry)) → pointwise same_publisher_journal (entries_of a) (entries_of b) ≡ pointwise (λ x y. same_publisher_journal x.items y.items) a b
entries_compared a b = pointwise-map (λ (v : Vec PublisherEntry). v.items) same_publisher_journal a b

pub events_compared : (a b : List (Vec (ℕ × QueueNote))) → pointwise same_queue_journal (events_of a) (events_of b) ≡ pointwise (λ x y. same_queue_journal x.items y.items) a b
events_compared a b = pointwise-map (λ (v : Vec (ℕ × QueueNote)). v.items) same_queue_journal a b

pub calls_compared : (a b : List (ObjectId × Vec CallNote)) → pointwise same_calls (calls_of a) (calls_of b) ≡ pointwise (λ x y. same_calls (calls_in x) (calls_in y)) a b
calls_compared a b = pointwise-map calls_in same_calls a b

pub images_compared : (a b : List (SubId × ImageHead × List FieldData)) → pointwise same_image (images_of a) (images_of b) ≡ pointwise (λ x y. same_image (image_in x) (image_in y)) a b
images_compared a b = pointwise-map image_in same_image a b

pub groups_compared : (a b : List (ℕ × Vec GroupNote)) → pointwise same_group (groups_of a) (groups_of b) ≡ pointwise (λ x y. same_group (group_in x) (group_in y)) a b
groups_compared a b = pointwise-map group_in same_group a b

pub watches_compared : (a b : List (ℕ × Vec WatchNote)) → pointwise same_watch (watches_of a) (watches_of b) ≡ pointwise (λ x y. same_watch (watch_in x) (watch_in y)) a b
watches_compared a b = pointwise-map watch_in same_watch a b
