use Rattle.std.proofs.Common.{◌≡◌, false}
use Rattle.std.specs.List.{list_any}
use Rattle.mama_event.specs.declared.shape.Bounds.{Bounds}
use Rattle.mama_event.specs.Lawful.{IsLawful}
use Rattle.mama_event.specs.ToTimers.{is_last, fits}
use Rattle.mama_tests_calls.proofs.lanes.put_all.Given as goal

abbrev pub invariant-loop-moment : goal.invariant-loop-moment
invariant-loop-moment g l = record {
  lane : l.port.lane ≡ l.fn.port.lane;
  lawful : (bounds : Bounds) → IsLawful is_last (fits bounds) l.port.put;
  goes_on : list_any is_last l.port.put ≡ false;
}
