use Rattle.std.proofs.Common.{◌≡◌, false, map}
use Rattle.std.specs.List.{list_any}
use Rattle.mama_event.specs.declared.shape.Bounds.{Bounds}
use Rattle.mama_event.specs.Lawful.{IsLawful}
use Rattle.mama_event.specs.ToTimers.{note_of, is_last, fits}
use Rattle.mama_lane.proofs.tests.clock.Given as goal

abbrev pub invariant-loop-moment : goal.invariant-loop-moment
invariant-loop-moment l = record {
  lawful : (bounds : Bounds) → IsLawful is_last (fits bounds) (map (note_of (λ object. object)) l.events.items);
  goes_on : list_any is_last (map (note_of (λ object. object)) l.events.items) ≡ false;
}
