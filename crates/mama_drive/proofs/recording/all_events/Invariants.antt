use Rattle.std.specs.Vec.{vec_len, vec_capacity}
use Rattle.std.proofs.Common.{◌≡◌, ◌+◌, ◌≤◌, ◌++◌, length, map}
use Rattle.mama_record.specs.RunView.{events_of}
use Rattle.mama_drive.specs.Scene.{journal_in}
use Rattle.mama_drive.specs.Given.{HaveGiven}
use Rattle.mama_plans.specs.Numbered.{numbered, lists_put}
use Rattle.mama_drive.specs.Numbered.{groups_given, watches_given}
use Rattle.mama_drive.proofs.recording.all_events.Given as goal

abbrev pub invariant-loop-seat : goal.invariant-loop-seat
invariant-loop-seat l = record {
  moved : events_of l.events.items ≡ map journal_in l.yielded;
  gave : HaveGiven l.yielded l.given.items;
  heard : numbered l.heard.items ≡ lists_put (groups_given l.yielded) (numbered l.fn.room_for_groups.items);
  noted : numbered l.noted.items ≡ lists_put (watches_given l.yielded) (numbered l.fn.room_for_watches.items);
  whole : l.yielded ++ l.seat-iterator.rest.items ≡ l.fn.seats.items;
  room : vec_len l.events + length l.seat-iterator.rest.items ≤ vec_capacity l.events;
  room_for_calls : vec_len l.given + length l.seat-iterator.rest.items ≤ vec_capacity l.given;
}
