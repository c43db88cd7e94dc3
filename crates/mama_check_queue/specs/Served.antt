-- believed: A queue that was served again: what it put, and the last images of its subscriptions.
use Rattle.std.specs.Prelude.{ℕ, List, Option, map}
use Rattle.std.specs.Global.{Vec}
use Rattle.mama_journal.specs.Journal.{first_said}
use Rattle.mama_check_order.specs.Numbered.{numbered, parted}
use Rattle.mama_event.specs.declared.ids.SubId.{SubId}
use Rattle.mama_event.specs.declared.ids.ObjectId.TheVariants.{Sub}
use Rattle.mama_event.specs.declared.to_bridge.BridgeNote.{BridgeNote}
use Rattle.mama_event.specs.declared.to_timers.TimersNote.{TimersNote}
use Rattle.mama_event.specs.declared.to_queue.QueueNote.{QueueNote}
use Rattle.mama_event.specs.declared.group.GroupRow.{GroupRow}
use Rattle.mama_event.specs.declared.group.GroupNote.{GroupNote}
use Rattle.mama_event.specs.declared.watch.WatchRow.{WatchRow}
use Rattle.mama_event.specs.declared.watch.WatchNote.{WatchNote}
use Rattle.mama_rules_queue.specs.Queue.{QueuePut, make_in, context_of, messages_of, deeds}
use Rattle.mama_rules_queue.specs.Group.{group_notes}
use Rattle.mama_rules_queue.specs.Watch.{watch_notes, watched_puts_at}
use Rattle.mama_dispatch.specs.declared.row.ImageRow.{ImageRow}
use Rattle.mama_dispatch.specs.Images.{lent}
use Rattle.mama_group.specs.declared.silent.SilentGroup.{SilentGroup}
use Rattle.mama_record.specs.RunData.{LastImage, GroupNotes, WatchNotes}
use Rattle.mama_rules_rounds.specs.Client.{Planned, bridge_part, timers_part}
use Rattle.mama_rules_rounds.specs.Told.{image_in}
use Rattle.mama_plans.specs.Image.{found_image}
use Rattle.mama_plans.specs.Orders.{orders_in}

-- a queue: the objects with the plans that its listeners follow, its groups and its watches, and what it took
pub record ServedData : Type 0 where
  pub objects : List Planned
  pub groups : List (ℕ × GroupRow)
  pub watches : List (ℕ × WatchRow)
  pub journal : List (ℕ × QueueNote)

-- what the entries of a journal put, each event with the number of the entry that put it
abbrev pub puts_in : List Planned → List WatchRow → List (ℕ × QueueNote) → List (ℕ × QueuePut)
puts_in objects rows journal = numbered (watched_puts_at (orders_in objects) rows) journal

-- the rows of its watches
abbrev pub rows_in : ServedData → List WatchRow
rows_in s = map (λ w. w.1) s.watches

abbrev pub bridge_puts : ServedData → List (ℕ × BridgeNote)
bridge_puts s = parted bridge_part (puts_in s.objects (rows_in s) s.journal)

abbrev pub timers_puts : ServedData → List (ℕ × TimersNote)
timers_puts s = parted timers_part (puts_in s.objects (rows_in s) s.journal)

-- the last image of a subscription, if it has one
abbrev pub last_image_of : ServedData → SubId → List LastImage
last_image_of s sub = image_in sub (context_of (first_said (λ e. make_in (Sub sub) e.1) s.journal) (messages_of sub (deeds (orders_in s.objects) s.journal)))

-- what each of its groups heard, and what each of its watches noted, with its number
abbrev pub groups_heard : ServedData → List GroupNotes
groups_heard s = map (λ g. record { group = g.0; notes = group_notes (orders_in s.objects) g.1.members s.journal }) s.groups

abbrev pub watches_noted : ServedData → List WatchNotes
watches_noted s = map (λ w. record { watch = w.0; notes = watch_notes (orders_in s.objects) w.1 s.journal }) s.watches

-- the same as it is given
abbrev pub group_given : ℕ × Vec GroupNote × SilentGroup → GroupNotes
group_given g = record { group = g.0; notes = g.1.items }

abbrev pub watch_given : ℕ × Vec WatchNote → WatchNotes
watch_given w = record { watch = w.0; notes = w.1.items }

abbrev pub image_given : SubId → Option ImageRow → List LastImage
image_given sub row = found_image sub (lent row)
