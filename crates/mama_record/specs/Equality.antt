-- believed: Records of runs are compared exactly: the tests hold where both sides are one, and nowhere else.
use Rattle.std.specs.Prelude.{ℕ, Bool, true, false, ◌==◌, ◌&&◌, List}
use Rattle.std.specs.Cmp.Lexicographic.{pointwise}
use Rattle.std.specs.Str.{bytes_eq}
use Rattle.mama_msg.specs.Equality.{same_message}
use Rattle.mama_event.specs.Object.{same_sub, same_timer, same_object}
use Rattle.mama_event.specs.Equality.{same_quality, same_call_note, same_publisher_entry, same_queue_note, same_bridge_note, same_group_note, same_watch_note}
use Rattle.mama_event.specs.declared.market.ImageHead.{ImageHead}
use Rattle.mama_event.specs.declared.publisher_entry.PublisherEntry.{PublisherEntry}
use Rattle.mama_event.specs.declared.to_bridge.BridgeNote.{BridgeNote}
use Rattle.mama_event.specs.declared.to_queue.QueueNote.{QueueNote}
use Rattle.mama_event.specs.declared.to_timers.TimersNote.{TimersNote}
use Rattle.mama_event.specs.declared.to_timers.TimersNote.TheVariants as timed
use Rattle.mama_record.specs.RunData.{RunData, ObjectCalls, LastImage, GroupNotes, WatchNotes}

-- two notes of the timer service are one
abbrev pub same_timers_note : TimersNote → TimersNote → Bool
same_timers_note (timed.Arm timer queue interval tag) (timed.Arm timer' queue' interval' tag') = same_timer timer timer' && queue == queue' && interval == interval' && same_object tag tag'
same_timers_note (timed.Disarm timer) (timed.Disarm timer') = same_timer timer timer'
same_timers_note (timed.Now moment) (timed.Now moment') = moment == moment'
same_timers_note timed.ClientDone timed.ClientDone = true
same_timers_note timed.Bye timed.Bye = true
same_timers_note timed.Fin timed.Fin = true
same_timers_note _ _ = false

-- two entries came by one port and have one note
abbrev pub same_entry : {N : Type 0} → (N → N → Bool) → ℕ × N → ℕ × N → Bool
same_entry same a b = a.0 == b.0 && same a.1 b.1

abbrev pub same_bridge_journal : List (ℕ × BridgeNote) → List (ℕ × BridgeNote) → Bool
same_bridge_journal a b = pointwise (same_entry same_bridge_note) a b

abbrev pub same_timers_journal : List (ℕ × TimersNote) → List (ℕ × TimersNote) → Bool
same_timers_journal a b = pointwise (same_entry same_timers_note) a b

abbrev pub same_queue_journal : List (ℕ × QueueNote) → List (ℕ × QueueNote) → Bool
same_queue_journal a b = pointwise (same_entry same_queue_note) a b

abbrev pub same_publisher_journal : List PublisherEntry → List PublisherEntry → Bool
same_publisher_journal a b = pointwise same_publisher_entry a b

-- two images are one, beside their fields
abbrev pub same_head : ImageHead → ImageHead → Bool
same_head a b = a.sender == b.sender && a.last == b.last && same_quality a.quality b.quality

abbrev pub same_image : LastImage → LastImage → Bool
same_image a b = same_sub a.sub b.sub && same_head a.head b.head && same_message a.body b.body

-- one object has the same callbacks
abbrev pub same_calls : ObjectCalls → ObjectCalls → Bool
same_calls a b = same_object a.object b.object && pointwise same_call_note a.calls b.calls

-- one group heard the same
abbrev pub same_group : GroupNotes → GroupNotes → Bool
same_group a b = a.group == b.group && pointwise same_group_note a.notes b.notes

-- one watch noted the same
abbrev pub same_watch : WatchNotes → WatchNotes → Bool
same_watch a b = a.watch == b.watch && pointwise same_watch_note a.notes b.notes

-- two records have the same parts
abbrev pub same_run : RunData → RunData → Bool
same_run a b =
    pointwise bytes_eq a.clients b.clients && pointwise same_publisher_journal a.publishers b.publishers
    && same_bridge_journal a.bridge b.bridge && same_timers_journal a.timers b.timers
    && pointwise same_queue_journal a.queues b.queues && pointwise same_calls a.calls b.calls && pointwise same_image a.images b.images
    && pointwise same_group a.groups b.groups && pointwise same_watch a.watches b.watches
