use Rattle.std.proofs.Common.{◌≡◌, map, length}
use Rattle.mama_event.specs.ToBridge.{note_of}
use Rattle.mama_plans.specs.Put.{own_tag}
use Rattle.mama_seats.specs.Waiting.{waits}
use Rattle.mama_drive.specs.Held.{lay_event, lay_all}
use Rattle.mama_drive.proofs.held.settle_events.Given as goal

abbrev pub invariant-loop-event : goal.invariant-loop-event
invariant-loop-event l =
    lay_all (lay_event l.port) (map (note_of own_tag) (waits l.events)) l.system
    ≡ lay_all (lay_event l.port) (map (note_of own_tag) (waits l.fn.events)) l.fn.system

abbrev pub decreases-loop-event : goal.decreases-loop-event
decreases-loop-event l = length (waits l.events)
