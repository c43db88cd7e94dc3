-- inner: The record that is made of what the seats of a crew leave.
use Rattle.std.specs.Prelude.{◌≡◌, ℕ, List, map, Some}
use Rattle.std.specs.Global.{Vec}
use Rattle.mama_msg.specs.Field.{FieldData}
use Rattle.mama_event.specs.declared.ids.ObjectId.{ObjectId}
use Rattle.mama_event.specs.declared.ids.SubId.{SubId}
use Rattle.mama_event.specs.declared.market.ImageHead.{ImageHead}
use Rattle.mama_event.specs.declared.callback.CallNote.{CallNote}
use Rattle.mama_event.specs.declared.group.GroupNote.{GroupNote}
use Rattle.mama_event.specs.declared.listener.Listener as listeners
use Rattle.mama_event.specs.declared.stream.Tagged as tags
use Rattle.mama_record.specs.RunData.{RunData}
use Rattle.mama_record.specs.RunView.{moments_of, entries_of, events_of, calls_of, images_of, groups_of, watches_of}
use Rattle.mama_rules_rounds.specs.Client.{Planned}
use Rattle.mama_close.specs.Apart.{AreEdgesOf}
use Rattle.mama_close.specs.declared.apart.Apart.{Apart}
use Rattle.mama_close.specs.declared.apart.Gathered.{Gathered}

-- The record has the journals and moments that are left, these images, what these groups heard, and the callbacks in the order of the objects; and the
-- listeners that are left come back in that order.
pub record IsMade {L : Type 0} (objects : List Planned) (left : Gathered L) (images : List (SubId × ImageHead × List FieldData)) (groups : List (ℕ × Vec GroupNote)) (run : RunData) (back : List (ObjectId × L)) : Type 0 where
  pub calls : List (ObjectId × Vec CallNote)
  pub calls_objects : map (λ v. v.0) calls ≡ map (λ p. p.object) objects
  pub calls_left : map (λ v. Some v.1) calls ≡ left.calls.items
  pub run_is : run ≡ record {
    clients = moments_of left.moments.items;
    publishers = entries_of left.entries.items;
    bridge = left.bridge.items;
    timers = left.timers.items;
    queues = events_of left.events.items;
    calls = calls_of calls;
    images = images_of images;
    groups = groups_of groups;
    watches = watches_of left.noted.items;
  }
  pub back_objects : map (λ v. v.0) back ≡ map (λ p. p.object) objects
  pub back_left : map (λ v. Some v.1) back ≡ left.listeners.items

-- The lanes of these ends were closed, and this is the record of what the seats left, and these are their listeners.
pub record IsClosed {L : Type 0} {listener : listeners.Ghosts L} {tagged : tags.Ghosts L} (objects : List Planned) (apart : Apart L listener tagged) (images : List (SubId × ImageHead × List FieldData)) (groups : List (ℕ × Vec GroupNote)) (run : RunData) (back : List (ObjectId × L)) : Type 0 where
  pub left : Gathered L
  pub edges : AreEdgesOf apart
  pub moments : left.moments ≡ apart.clients.moments
  pub entries : left.entries ≡ apart.publishers.journals
  pub bridge : left.bridge ≡ apart.bridge.journal
  pub timers : left.timers ≡ apart.timers.journal
  pub events : left.events ≡ apart.queues.journals
  pub calls : left.calls ≡ apart.queues.calls
  pub listeners : left.listeners ≡ apart.queues.listeners
  pub noted : left.noted ≡ apart.queues.noted
  pub made : IsMade objects left images groups run back
